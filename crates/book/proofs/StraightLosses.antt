-- A function of the whole prices that is bounded above and straight except at some corners: where it is greatest.
use Rattle.std.proofs.Common.{◌≡◌, ℕ, zero, suc, ◌+◌, ◌<◌, ◌≢◌, List, ◌∷◌, ℤ, pos, ◌+ℤ◌, ◌≤ℤ◌, ◌<ℤ◌, ap, arith}
use borrow.Author.Differences.{ints, down}
use Rattle.std.specs.List.{AllByRecursion}
use Rattle.std.proofs.ByRecursion.{All-weaker}
use Rattle.std.proofs.lemmas.Int.{by_lt_z}
use Rattle.kinds.specs.Kinds.{Apart}
use Rattle.book.specs.Prices.{Ahead, Worst}

-- Straight at suc x: it rises as much above as it does below.
abbrev pub Straight : (ℕ → ℤ) → ℕ → Type 0
Straight f x = f x +ℤ f (suc (suc x)) ≡ f (suc x) +ℤ f (suc x)

pub record Bent (f : ℕ → ℤ) (bs : List ℕ) : Type 0 where
  pub straight : (x : ℕ) → Apart (suc x) bs → Straight f x
  pub bound : ℕ
  pub bounded : (x : ℕ) → f x ≤ℤ pos bound

module _ (f : ℕ → ℤ) (bs : List ℕ) (b : Bent f bs) (M : ℤ) (lows : AllByRecursion (λ c. f c ≤ℤ M) bs) where
  -- a price with a loss above M is no corner
  above_apart : (x : ℕ) → M <ℤ f x → Apart x bs
  above_apart x h = All-weaker (λ c. f c ≤ℤ M) (λ c. c ≢ x) (λ c k e. let q = ap f e in omega (arith, ints)) bs lows

  -- a rise that ends above M goes on
  goes_on : (x : ℕ) → f x <ℤ f (suc x) → M <ℤ f (suc x) → f (suc x) <ℤ f (suc (suc x))
  goes_on x h k = let e = b.straight x (above_apart (suc x) k) in omega (arith, ints)

  -- and so gets as high as one likes
  climbs : (k x : ℕ) → f x <ℤ f (suc x) → M <ℤ f (suc x) → (z : ℕ) × ((f (suc x) +ℤ pos k) ≤ℤ f z)
  climbs zero x h m = (suc x, omega (arith, ints))
  climbs (suc k) x h m =
      let s = goes_on x h m in
      let r = climbs k (suc x) s (omega (arith, ints)) in
      (r.0, omega (arith, ints))

  never : (x : ℕ) → f x ≤ℤ M → M <ℤ f (suc x) → ⊥
  never x h m =
      let r = climbs (b.bound + down M) x (omega (arith, ints)) m in
      let t = b.bounded r.0 in
      omega (arith, ints)

  -- what bounds the loss at price 0 and at the corners bounds it at every whole price
  pub everywhere : f 0 ≤ℤ M → (x : ℕ) → f x ≤ℤ M
  everywhere low zero = low
  everywhere low (suc x) = by_lt_z M (f (suc x)) (λ m. absurd (never x (everywhere low x) m)) (λ h. h)

  -- a loss above M at price 0 that does not fall at once never falls
  pub never_falls : M <ℤ f 0 → f 0 ≤ℤ f 1 → (x : ℕ) → (f 0 ≤ℤ f x) × (f x ≤ℤ f (suc x))
  never_falls high up zero = (omega (arith, ints), up)
  never_falls high up (suc x) =
      let h = never_falls high up x in
      let low = h.0 in
      let on = h.1 in
      let e = b.straight x (above_apart (suc x) (omega (arith, ints))) in
      (omega (arith, ints), omega (arith, ints))

module _ (f : ℕ → ℤ) (bs : List ℕ) (b : Bent f bs) (p : ℕ) (ahead : AllByRecursion (Ahead f p) (0 ∷ bs)) where
  at_most : (x : ℕ) → f x ≤ℤ f p
  at_most = everywhere f bs b (f p) (All-weaker (Ahead f p) (λ c. f c ≤ℤ f p) (λ c a. a.no_less) bs ahead.1) ahead.0.no_less

  -- a lower price with as great a loss is no corner
  equal_apart : (x : ℕ) → x < p → f p ≤ℤ f x → Apart x bs
  equal_apart x l h = All-weaker (Ahead f p) (λ c. c ≢ x) (λ c a e. let q = ap f e in let t : f c <ℤ f p = a.first (omega arith) in omega (arith, ints)) bs ahead.1

  less : (x : ℕ) → x < p → f x <ℤ f p
  less zero l = ahead.0.first l
  less (suc x) l =
      let h = less x (omega arith) in
      by_lt_z (f (suc x)) (f p) (λ k. k) (λ k.
      let e = b.straight x (equal_apart (suc x) l k) in
      let t = at_most (suc (suc x)) in
      omega (arith, ints))

  -- a price that stands ahead of price 0 and of the corners stands ahead of every whole price
  pub worst : Worst f p
  worst = record { greatest = at_most; lowest = less }
