-- Price 0 never raises the greatest loss, in kinds that bend somewhere and whose contracts lose no less at 1 than at 0.
use Rattle.std.proofs.Common.{◌≡◌, ℕ, zero, suc, ◌≤◌, true, ◌⊎◌, List, [], ◌∷◌, length, ℤ, pos, negsuc, ◌*ℤ◌, ◌≤ℤ◌, inl, inr, ⊎_elim, mul-le-mul_left, arith}
use borrow.Author.Differences.{ints}
use Rattle.std.specs.List.{AllByRecursion}
use Rattle.std.proofs.lemmas.Int.{by_lt_z}
use Rattle.kinds.specs.Kinds.{Meaning, Lawful}
use Rattle.book.specs.declared.position.Position.{Position}
use Rattle.book.specs.Losses.{paid, value, lost, loss, told, corners, Fitting}
use Rattle.book.specs.Theorems.{ZeroNeverRaises}
use Rattle.book.proofs.BookLosses.{all_left, all_right, loss_bent}
use Rattle.book.proofs.Integers.{times_le}
use Rattle.book.proofs.StraightLosses.{never_falls}

-- What is asked of a kind at prices 0 and 1.
pub record FromZero {C : Type 0} (K : Meaning C) : Type 0 where
  pub bought : (c : C) (v u : ℕ) → K.fits c v u ≡ true → K.payment c 1 ≤ K.payment c 0
  pub sold : (c : C) (v u : ℕ) → K.fits c v u ≡ true → AllByRecursion (λ b. 1 ≤ b) (K.corners_under c v) → K.payment_under c v 0 ≤ K.payment_under c v 1
  pub bends : (c : C) → 1 ≤ length (K.corners c)
  pub bends_under : (c : C) (v : ℕ) → 1 ≤ length (K.corners_under c v)

-- either 0 is among the prices or all lie above it
zero_or_above : (P : ℕ → Type 0) (bs : List ℕ) → AllByRecursion P bs → P 0 ⊎ AllByRecursion (λ b. 1 ≤ b) bs
zero_or_above P [] h = inr tt
zero_or_above P (zero ∷ bs) h = inl h.0
zero_or_above P (suc b ∷ bs) h = ⊎_elim (λ z. inl z) (λ a. inr (omega arith, a)) (zero_or_above P bs h.1)

some_of : (P : ℕ → Type 0) (bs : List ℕ) → 1 ≤ length bs → AllByRecursion P bs → (b : ℕ) × P b
some_of P [] l h = absurd (omega (arith, l))
some_of P (b ∷ bs) l h = (b, h.0)

module _ {C : Type 0} (K : Meaning C) (z : FromZero K) (v u : ℕ) where
  worth_falls : (c : C) (q : ℤ) → K.fits c v u ≡ true → AllByRecursion (λ b. 1 ≤ b) (told K v c q) → (q *ℤ pos (paid K v c q 1)) ≤ℤ (q *ℤ pos (paid K v c q 0))
  worth_falls c (pos n) f a = omega (arith, ints, mul-le-mul_left n (z.bought c v u f))
  worth_falls c (negsuc n) f a = omega (arith, ints, mul-le-mul_left (suc n) (z.sold c v u f a))

  value_falls : (ps : List (Position C)) → Fitting K v u ps → AllByRecursion (λ b. 1 ≤ b) (corners K v ps) → value K v ps 1 ≤ℤ value K v ps 0
  value_falls [] f a = omega (arith, ints)
  value_falls (p ∷ ps) f a =
      let t = told K v p.contract p.net in
      let here = worth_falls p.contract p.net f.0 (all_left _ t (corners K v ps) a) in
      let rest = value_falls ps f.1 (all_right _ t (corners K v ps) a) in
      omega (arith, ints)

  told_some : (c : C) (q : ℤ) → 1 ≤ length (told K v c q)
  told_some c (pos n) = z.bends c
  told_some c (negsuc n) = z.bends_under c v

  module _ (laws : Lawful K) (scale : ℕ) (M : ℤ) (m : pos 0 ≤ℤ M) where
    -- with no corner at 0, a loss above M there would stay above M at every corner
    lifted : (ps : List (Position C)) → Fitting K v u ps → AllByRecursion (λ c. loss K v scale ps c ≤ℤ M) (corners K v ps) → AllByRecursion (λ b. 1 ≤ b) (corners K v ps) → loss K v scale ps 0 ≤ℤ M
    lifted [] f lows a = omega (arith, ints)
    lifted (p ∷ ps) f lows a =
        let qs = p ∷ ps in
        let g : ℕ → ℤ = loss K v scale qs in
        let t = told K v p.contract p.net in
        let fall = value_falls qs f a in
        let up : g 0 ≤ℤ g 1 = times_le (lost K v qs 0) (lost K v qs 1) scale (omega (arith, ints)) in
        let c = some_of (λ c. g c ≤ℤ M) t (told_some p.contract p.net) (all_left _ t (corners K v ps) lows) in
        let low = c.1 in
        by_lt_z M (g 0) (λ high. let r = (never_falls g (corners K v qs) (loss_bent K laws v u qs f scale) M lows high up c.0).0 in absurd (omega (arith, ints))) (λ h. h)

pub zero_never_raises : {C : Type 0} (K : Meaning C) → Lawful K → FromZero K → ZeroNeverRaises K
zero_never_raises K laws z v u scale ps fit most m lows =
    ⊎_elim (λ h. h) (λ a. lifted K z v u laws scale most m ps fit lows a) (zero_or_above (λ c. loss K v scale ps c ≤ℤ most) (corners K v ps) lows)
