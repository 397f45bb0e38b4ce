-- What a trade does to the value and to the margin.
use Rattle.std.proofs.Common.{◌≡◌, ℕ, zero, suc, ◌≤◌, true, false, cond, List, [], ◌∷◌, ℤ, pos, negsuc, ◌+ℤ◌, ◌*ℤ◌, neg_ℤ, ◌≤ℤ◌, refl, ap, ◌∙◌, mul-le-mul_right, arith}
use borrow.Author.Differences.{ints}
use Rattle.book.specs.declared.position.Position.{Position}
use Rattle.kinds.specs.Kinds.{Meaning}
use Rattle.book.specs.Losses.{paid, worth, value, loss, Fitting}
use Rattle.book.specs.Trades.{put, traded}
use Rattle.book.specs.Theorems.{SalesRaise, PurchasesLower}
use Rattle.book.proofs.Integers.{times_le}
use Rattle.book.proofs.Rounding.{least_mono}

module _ {C : Type 0} (K : Meaning C) (v : ℕ) where
  -- what a quantity of a contract is worth rises with the quantity
  worth_mono : (c : C) (a b : ℤ) (x : ℕ) → a ≤ℤ b → (a *ℤ pos (paid K v c a x)) ≤ℤ (b *ℤ pos (paid K v c b x))
  worth_mono c (pos a) (pos b) x h = let k : a ≤ b = omega (arith, ints) in omega (arith, ints, mul-le-mul_right (K.payment c x) k)
  worth_mono c (pos a) (negsuc b) x h = absurd (omega (arith, ints))
  worth_mono c (negsuc a) (pos b) x h = omega (arith, ints)
  worth_mono c (negsuc a) (negsuc b) x h = let k : suc b ≤ suc a = omega (arith, ints) in omega (arith, ints, mul-le-mul_right (K.payment_under c v x) k)

  put_value : (c : C) (z : ℤ) (ps : List (Position C)) (x : ℕ) → value K v (put c z ps) x ≡ (z *ℤ pos (paid K v c z x)) +ℤ value K v ps x
  put_value c (pos zero) ps x = omega (arith, ints)
  put_value c (pos (suc n)) ps x = refl
  put_value c (negsuc n) ps x = refl

  -- the value after a trade rises with the quantity traded
  traded_mono : (c : C) (q r : ℤ) (ps : List (Position C)) (x : ℕ) → q ≤ℤ r → value K v (traded K c q ps) x ≤ℤ value K v (traded K c r ps) x
  traded_mono c q r [] x h =
      omega (arith, ints, put_value c q [] x, put_value c r [] x, worth_mono c q r x h)
  traded_mono c q r (p ∷ ps) x h =
      let rest = traded_mono c q r ps x h in
      let d = p.contract in
      let more : (p.net +ℤ q) ≤ℤ (p.net +ℤ r) = omega (arith, ints) in
      elim (K.same d c) as (λ t. value K v (cond t (put d (p.net +ℤ q) ps) (p ∷ traded K c q ps)) x ≤ℤ value K v (cond t (put d (p.net +ℤ r) ps) (p ∷ traded K c r ps)) x) [
        | true ↦ omega (arith, ints, put_value d (p.net +ℤ q) ps x, put_value d (p.net +ℤ r) ps x, worth_mono d (p.net +ℤ q) (p.net +ℤ r) x more)
        | false ↦ omega (arith, ints)
      ]

  -- a trade of nothing changes no value
  traded_none : (c : C) (ps : List (Position C)) (x : ℕ) → value K v (traded K c (pos 0) ps) x ≡ value K v ps x
  traded_none c [] x = refl
  traded_none c (p ∷ ps) x =
      let rest = traded_none c ps x in
      let d = p.contract in
      let same : p.net +ℤ pos 0 ≡ p.net = omega (arith, ints) in
      elim (K.same d c) as (λ t. value K v (cond t (put d (p.net +ℤ pos 0) ps) (p ∷ traded K c (pos 0) ps)) x ≡ value K v (p ∷ ps) x) [
        | true ↦ put_value d (p.net +ℤ pos 0) ps x ∙ ap (λ z. (z *ℤ pos (paid K v d z x)) +ℤ value K v ps x) same
        | false ↦ ap (λ z. worth K v p x +ℤ z) rest
      ]

  module _ (scale : ℕ) (ps : List (Position C)) (c : C) (q : ℤ) where
    -- after a sale the loss is nowhere less
    pub sale_loss : q ≤ℤ pos 0 → (x : ℕ) → loss K v scale ps x ≤ℤ loss K v scale (traded K c q ps) x
    sale_loss h x =
        let e = traded_none c ps x in
        let k = traded_mono c q (pos 0) ps x h in
        times_le (neg_ℤ (value K v ps x)) (neg_ℤ (value K v (traded K c q ps) x)) scale (omega (arith, ints))

    -- after a purchase it is nowhere greater
    pub purchase_loss : pos 0 ≤ℤ q → (x : ℕ) → loss K v scale (traded K c q ps) x ≤ℤ loss K v scale ps x
    purchase_loss h x =
        let e = traded_none c ps x in
        let k = traded_mono c (pos 0) q ps x h in
        times_le (neg_ℤ (value K v (traded K c q ps) x)) (neg_ℤ (value K v ps x)) scale (omega (arith, ints))

-- after a trade in a contract that fits, the book still fits
put_fitting : {C : Type 0} (K : Meaning C) (v u : ℕ) (c : C) (z : ℤ) (ps : List (Position C)) → K.fits c v u ≡ true → Fitting K v u ps → Fitting K v u (put c z ps)
put_fitting K v u c (pos zero) ps f fs = fs
put_fitting K v u c (pos (suc n)) ps f fs = (f, fs)
put_fitting K v u c (negsuc n) ps f fs = (f, fs)

pub traded_fitting : {C : Type 0} (K : Meaning C) (v u : ℕ) (c : C) (q : ℤ) (ps : List (Position C)) → K.fits c v u ≡ true → Fitting K v u ps → Fitting K v u (traded K c q ps)
traded_fitting K v u c q [] f fs = put_fitting K v u c q [] f tt
traded_fitting K v u c q (p ∷ ps) f fs =
    let rest = traded_fitting K v u c q ps f fs.1 in
    elim (K.same p.contract c) as (λ t. Fitting K v u (cond t (put p.contract (p.net +ℤ q) ps) (p ∷ traded K c q ps))) [
      | true ↦ put_fitting K v u p.contract (p.net +ℤ q) ps fs.0 fs.1
      | false ↦ (fs.0, rest)
    ]

pub sales_raise : {C : Type 0} (K : Meaning C) → SalesRaise K
sales_raise K v scale ps c q h m n =
    least_mono (loss K v scale ps) (loss K v scale (traded K c q ps)) m n (sale_loss K v scale ps c q h)

pub purchases_lower : {C : Type 0} (K : Meaning C) → PurchasesLower K
purchases_lower K v scale ps c q h m n a b =
    least_mono (loss K v scale (traded K c q ps)) (loss K v scale ps) n m (purchase_loss K v scale ps c q h) b a
