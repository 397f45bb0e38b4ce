-- The protected loss of a book whose contracts fit: straight except at the corners, and bounded by what is held sold.
use Rattle.std.proofs.Common.{◌≡◌, ℕ, suc, ◌+◌, ◌-◌, ◌*◌, ◌≤◌, true, List, [], ◌∷◌, ◌++◌, ℤ, pos, negsuc, ◌*ℤ◌, neg_ℤ, ◌≤ℤ◌, sym, ap, ◌∙◌, add-mul, mul-le-mul_left, arith}
use borrow.Author.Differences.{ints}
use Rattle.std.specs.List.{AllByRecursion}
use Rattle.book.specs.declared.position.Position.{Position}
use Rattle.kinds.specs.Kinds.{Meaning, Lawful, Apart, StraightAt}
use Rattle.book.specs.Prices.{Ahead, Worst}
use Rattle.book.specs.Losses.{paid, value, lost, loss, told, corners, Fitting, short, sold}
use Rattle.book.proofs.Integers.{times_add, add_times, times_le}
use Rattle.book.proofs.StraightLosses.{Straight, Bent}
use Rattle.book.proofs.StraightLosses as straight

pub all_left : {X : Type 0} (P : X → Type 0) (xs ys : List X) → AllByRecursion P (xs ++ ys) → AllByRecursion P xs
all_left P [] ys h = tt
all_left P (x ∷ xs) ys h = (h.0, all_left P xs ys h.1)

pub all_right : {X : Type 0} (P : X → Type 0) (xs ys : List X) → AllByRecursion P (xs ++ ys) → AllByRecursion P ys
all_right P [] ys h = h
all_right P (x ∷ xs) ys h = all_right P xs ys h.1

-- a payment that is level at suc x, bought or sold any number of times
times_straight : (z : ℤ) (g : ℕ → ℕ) (x : ℕ) → StraightAt g (suc x) → Straight (λ y. z *ℤ pos (g y)) x
times_straight z g x e =
    let below : suc x - 1 ≡ x = omega arith in
    let above : suc x + 1 ≡ suc (suc x) = omega arith in
    let q : g x + g (suc (suc x)) ≡ g (suc x) + g (suc x) = omega (arith, e, ap g below, ap g above) in
    sym (times_add z (g x) (g (suc (suc x)))) ∙ ap (λ n. z *ℤ pos n) q ∙ times_add z (g (suc x)) (g (suc x))

scaled_straight : (f : ℕ → ℤ) (s x : ℕ) → Straight f x → Straight (λ y. f y *ℤ pos s) x
scaled_straight f s x e =
    sym (add_times (f x) (f (suc (suc x))) s) ∙ ap (λ n. n *ℤ pos s) e ∙ add_times (f (suc x)) (f (suc x)) s

module _ {C : Type 0} (K : Meaning C) (laws : Lawful K) (v u : ℕ) where
  worth_straight : (c : C) (z : ℤ) (x : ℕ) → K.fits c v u ≡ true → Apart (suc x) (told K v c z) → Straight (λ y. z *ℤ pos (paid K v c z y)) x
  worth_straight c (pos n) x f a = times_straight (pos n) (K.payment c) x (laws.straight c v u f (suc x) (omega arith) a)
  worth_straight c (negsuc n) x f a = times_straight (negsuc n) (K.payment_under c v) x (laws.straight_under c v u f (suc x) (omega arith) a)

  value_straight : (ps : List (Position C)) → Fitting K v u ps → (x : ℕ) → Apart (suc x) (corners K v ps) → Straight (value K v ps) x
  value_straight [] f x a = omega (arith, ints)
  value_straight (p ∷ ps) f x a =
      let t = told K v p.contract p.net in
      let here = worth_straight p.contract p.net x f.0 (all_left _ t (corners K v ps) a) in
      let rest = value_straight ps f.1 x (all_right _ t (corners K v ps) a) in
      omega (arith, ints)

  worth_least : (c : C) (z : ℤ) (x : ℕ) → K.fits c v u ≡ true → neg_ℤ (z *ℤ pos (paid K v c z x)) ≤ℤ pos (short z * v)
  worth_least c (pos n) x f = omega (arith, ints)
  worth_least c (negsuc n) x f =
      let e = laws.lesser_under c v u f x in
      let k : K.payment_under c v x ≤ v = omega arith in
      omega (arith, ints, mul-le-mul_left (suc n) k)

  value_least : (ps : List (Position C)) → Fitting K v u ps → (x : ℕ) → neg_ℤ (value K v ps x) ≤ℤ pos (sold ps * v)
  value_least [] f x = omega (arith, ints)
  value_least (p ∷ ps) f x =
      let here = worth_least p.contract p.net x f.0 in
      let rest = value_least ps f.1 x in
      omega (arith, ints, add-mul (short p.net) (sold ps) v)

  module _ (ps : List (Position C)) (f : Fitting K v u ps) where
    pub lost_bent : Bent (lost K v ps) (corners K v ps)
    lost_bent = record {
      straight = λ x a. let e = value_straight ps f x a in omega (arith, ints);
      bound = sold ps * v;
      bounded = value_least ps f;
    }

    -- a price that stands ahead of price 0 and of the corners stands ahead of every whole price
    pub worst : (p : ℕ) → AllByRecursion (Ahead (lost K v ps) p) (0 ∷ corners K v ps) → Worst (lost K v ps) p
    worst = straight.worst (lost K v ps) (corners K v ps) lost_bent

    module _ (scale : ℕ) where
      -- the loss never passes what the contracts held sold can lose, each by the variation
      pub loss_most : (x : ℕ) → loss K v scale ps x ≤ℤ pos (sold ps * v * scale)
      loss_most x = times_le (lost K v ps x) (pos (sold ps * v)) scale (value_least ps f x)

      pub loss_bent : Bent (loss K v scale ps) (corners K v ps)
      loss_bent = record {
        straight = λ x a. scaled_straight (lost K v ps) scale x (lost_bent.straight x a);
        bound = sold ps * v * scale;
        bounded = loss_most;
      }

      pub loss_everywhere : (M : ℤ) → AllByRecursion (λ c. loss K v scale ps c ≤ℤ M) (0 ∷ corners K v ps) → (x : ℕ) → loss K v scale ps x ≤ℤ M
      loss_everywhere M h = straight.everywhere (loss K v scale ps) (corners K v ps) loss_bent M h.1 h.0

      pub loss_worst : (p : ℕ) → AllByRecursion (Ahead (loss K v scale ps) p) (0 ∷ corners K v ps) → Worst (loss K v scale ps) p
      loss_worst = straight.worst (loss K v scale ps) (corners K v ps) loss_bent
