-- What a list of positions is worth and what it loses at a price, and where its corners lie. K is the meaning of its kind.
use Rattle.std.specs.Prelude.{◌≡◌, ℕ, suc, ◌+◌, ◌≤◌, Bool, true, false, ◌&&◌, List, [], ◌∷◌, ◌++◌, ℤ, pos, negsuc, ◌+ℤ◌, ◌*ℤ◌, neg_ℤ, nat_le, unsigned_abs}
use mathlib.Core.Bool.{Bool-set}
use Rattle.std.specs.Coded.{Unit-prop, ×_prop}
use Rattle.std.specs.List.{AllByRecursion, AllByRecursion-prop}
use Rattle.book.specs.declared.position.Position.{Position}
use Rattle.book.specs.declared.found.Found.{Found}
use Rattle.kinds.specs.Kinds.{Meaning}

-- What one contract pays to a book with this net quantity in it: a sold one under the variation v.
abbrev pub paid : {C : Type 0} → Meaning C → ℕ → C → ℤ → ℕ → ℕ
paid K v c (pos n) x = K.payment c x
paid K v c (negsuc n) x = K.payment_under c v x

abbrev pub worth : {C : Type 0} → Meaning C → ℕ → Position C → ℕ → ℤ
worth K v p x = p.net *ℤ pos (paid K v p.contract p.net x)

-- The protected value at the price x.
abbrev pub value : {C : Type 0} → Meaning C → ℕ → List (Position C) → ℕ → ℤ
value K v [] x = pos 0
value K v (p ∷ ps) x = worth K v p x +ℤ value K v ps x

-- What the book loses at the price x: minus the value.
abbrev pub lost : {C : Type 0} → Meaning C → ℕ → List (Position C) → ℕ → ℤ
lost K v ps x = neg_ℤ (value K v ps x)

-- The protected loss at the price x, in exact units, of which a hundredth of a point is so many as scale says.
abbrev pub loss : {C : Type 0} → Meaning C → ℕ → ℕ → List (Position C) → ℕ → ℤ
loss K v scale ps x = lost K v ps x *ℤ pos scale

-- The corners of a contract under this net quantity.
abbrev pub told : {C : Type 0} → Meaning C → ℕ → C → ℤ → List ℕ
told K v c (pos n) = K.corners c
told K v c (negsuc n) = K.corners_under c v

abbrev pub corners : {C : Type 0} → Meaning C → ℕ → List (Position C) → List ℕ
corners K v [] = []
corners K v (p ∷ ps) = told K v p.contract p.net ++ corners K v ps

-- Every position's contract fits the variation v and the ceiling u.
abbrev pub Fitting : {C : Type 0} → Meaning C → ℕ → ℕ → List (Position C) → Type 0
Fitting K v u ps = AllByRecursion (λ p. K.fits p.contract v u ≡ true) ps

-- No contract is held twice.
abbrev pub Distinct : {C : Type 0} → Meaning C → List (Position C) → Type 0
Distinct K [] = Unit {0}
Distinct K (p ∷ ps) = AllByRecursion (λ q. K.same p.contract q.contract ≡ false) ps × Distinct K ps

-- A book keeps these two facts in its type, which asks that each has one proof at most.
pub Fitting-prop : {C : Type 0} (K : Meaning C) (v u : ℕ) (ps : List (Position C)) → IsProp (Fitting K v u ps)
Fitting-prop K v u ps = AllByRecursion-prop _ (λ p. Bool-set _ _) ps

pub Distinct-prop : {C : Type 0} (K : Meaning C) (ps : List (Position C)) → IsProp (Distinct K ps)
Distinct-prop K [] = Unit-prop
Distinct-prop K (p ∷ ps) = ×_prop (AllByRecursion-prop _ (λ q. Bool-set _ _) ps) (Distinct-prop K ps)

-- How many single contracts are held sold.
abbrev pub short : ℤ → ℕ
short (pos n) = 0
short (negsuc n) = suc n

abbrev pub sold : {C : Type 0} → List (Position C) → ℕ
sold [] = 0
sold (p ∷ ps) = short p.net + sold ps

-- How many contracts are held in all, without sign.
abbrev pub gross : {C : Type 0} → List (Position C) → ℕ
gross [] = 0
gross (p ∷ ps) = unsigned_abs p.net + gross ps

-- No net quantity is zero.
abbrev pub all_held : {C : Type 0} → List (Position C) → Bool
all_held [] = true
all_held (p ∷ ps) = nat_le 1 (unsigned_abs p.net) && all_held ps

-- Every contract fits the variation v and the ceiling u, which is a market's.
pub record Sound {C : Type 0} (K : Meaning C) (v u : ℕ) (ps : List (Position C)) : Type 0 where
  pub fitting : Fitting K v u ps
  pub low : u ≤ 20000000

-- A price up to the ceiling, with the value of the book there.
pub record Finds {C : Type 0} (K : Meaning C) (v u : ℕ) (ps : List (Position C)) (r : Found) : Type 0 where
  pub under : r.price ≤ u
  pub read : r.gain ≡ value K v ps r.price
