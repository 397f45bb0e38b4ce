-- How large a position's worth and a book's value are at a price up to the ceiling, and a loop's step.
use Rattle.std.proofs.Common.{◌≡◌, ℕ, zero, suc, ◌+◌, ◌*◌, ◌<◌, ◌≤◌, true, List, [], ◌∷◌, ◌++◌, length, get_or, take, ℤ, pos, negsuc, ◌+ℤ◌, ◌*ℤ◌, nat_abs, sym, ap, ◌∙◌, le_refl, add-mul, mul-le-mul, arith, w32, w64, SFits, to_z, of_z}
use borrow.Author.Differences.{ints}
use Rattle.std.proofs.lemmas.List.{take_more}
use Rattle.std.proofs.ByRecursion.{All-get_or}
use Rattle.book.specs.declared.position.Position.{Position}
use Rattle.kinds.specs.Kinds.{Meaning, Lawful}
use Rattle.book.specs.Losses.{paid, worth, value, Fitting, gross}

-- a product of a quantity and a payment
pub product_most : (z : ℤ) (n a b : ℕ) → nat_abs z ≤ a → n ≤ b → nat_abs (z *ℤ pos n) ≤ a * b
product_most (pos m) n a b h l = mul-le-mul h l
product_most (negsuc m) n a b h l = let k = mul-le-mul h l in omega (arith, ints)

pub small_fits : (z : ℤ) → nat_abs z ≤ 10000 * 4294967295 → SFits w64 z
small_fits z h = omega (arith, ints)

module _ {C : Type 0} (K : Meaning C) (laws : Lawful K) (v u : ℕ) where
  paid_most : (c : C) (z : ℤ) (x : ℕ) → K.fits c v u ≡ true → x ≤ u → paid K v c z x ≤ u
  paid_most c (pos n) x f l = laws.at_most_ceiling c v u f x l
  paid_most c (negsuc n) x f l = let h = laws.at_most_ceiling c v u f x l in let e = laws.lesser_under c v u f x in omega arith

  -- at a price up to the ceiling a book is worth at most the ceiling for each contract
  pub value_most : (ps : List (Position C)) (x : ℕ) → Fitting K v u ps → x ≤ u → nat_abs (value K v ps x) ≤ gross ps * u
  value_most [] x f l = omega (arith, ints)
  value_most (p ∷ ps) x f l =
      let here = product_most p.net (paid K v p.contract p.net x) (nat_abs p.net) u (le_refl _) (paid_most p.contract p.net x f.0 l) in
      let rest = value_most ps x f.1 l in
      omega (arith, ints, add-mul (nat_abs p.net) (gross ps) u)

module _ {C : Type 0} where
  pub gross_take : (i : ℕ) (ps : List (Position C)) → gross (take i ps) ≤ gross ps
  gross_take zero ps = omega arith
  gross_take (suc i) [] = omega arith
  gross_take (suc i) (p ∷ ps) = omega (arith, gross_take i ps)

  pub net_most : (i : ℕ) (ps : List (Position C)) (d : Position C) → i < length ps → nat_abs (get_or ps i d).net ≤ gross ps
  net_most i [] d l = absurd (omega arith)
  net_most zero (p ∷ ps) d l = omega arith
  net_most (suc i) (p ∷ ps) d l = omega (arith, net_most i ps d (omega arith))

  pub net_small : (ps : List (Position C)) (i : ℕ) (p : Position C) → i < length ps → p ≡ get_or ps i p → gross ps ≤ 10000 → nat_abs p.net ≤ 10000
  net_small ps i p l e few = omega (arith, net_most i ps p l, ap (λ (o : Position C). nat_abs o.net) e)

  pub gross_push : (ps : List (Position C)) (p : Position C) → gross (ps ++ (p ∷ [])) ≡ gross ps + nat_abs p.net
  gross_push [] p = omega arith
  gross_push (q ∷ ps) p = omega (arith, gross_push ps p)

  pub gross_more : (ps : List (Position C)) (i : ℕ) (p : Position C) → i < length ps → p ≡ get_or ps i p → gross (take (i + 1) ps) ≡ gross (take i ps) + nat_abs p.net
  gross_more ps i p l e =
      ap (gross {C = C}) (take_more ps i p l ∙ ap (λ q. take i ps ++ (q ∷ [])) (sym e)) ∙ gross_push (take i ps) p

  pub value_push : (K : Meaning C) (v x : ℕ) (ps : List (Position C)) (p : Position C) → value K v (ps ++ (p ∷ [])) x ≡ value K v ps x +ℤ worth K v p x
  value_push K v x [] p = omega (arith, ints)
  value_push K v x (q ∷ ps) p = let e = value_push K v x ps p in omega (arith, ints)

  -- one position more
  pub value_more : (K : Meaning C) (v x : ℕ) (ps : List (Position C)) (i : ℕ) (p : Position C) → i < length ps → p ≡ get_or ps i p → value K v (take (i + 1) ps) x ≡ value K v (take i ps) x +ℤ worth K v p x
  value_more K v x ps i p l e =
      ap (λ (qs : List (Position C)). value K v qs x) (take_more ps i p l ∙ ap (λ q. take i ps ++ (q ∷ [])) (sym e)) ∙ value_push K v x (take i ps) p

  -- a position of the book fits
  pub item_fits : (K : Meaning C) (v u : ℕ) (ps : List (Position C)) (i : ℕ) (p : Position C) → i < length ps → p ≡ get_or ps i p → Fitting K v u ps → K.fits p.contract v u ≡ true
  item_fits K v u ps i p l e f = rw e (All-get_or (λ q. K.fits q.contract v u ≡ true) ps i p l f)

-- a net quantity of a book goes through 32 bits unchanged
pub same_net : (z : ℤ) → nat_abs z ≤ 10000 → to_z w32 (of_z w32 z) ≡ z
same_net z h = omega (arith, ints)
