-- The list of positions after a trade: where the contract is held, and where it is not.
use Rattle.std.proofs.Common.{◌≡◌, ℕ, zero, suc, ◌+◌, ◌<◌, ◌≤◌, true, false, cond, leb, List, [], ◌∷◌, ◌++◌, length, get_or, take, drop, set, ℤ, pos, negsuc, ◌+ℤ◌, nat_abs, sym, refl, ap, ◌∙◌, arith}
use Rattle.std.specs.List.{remove, AllByRecursion}
use Rattle.std.proofs.lemmas.List.{set_split, length-append, length-take, length-drop}
use Rattle.std.proofs.lemmas.Bool.{and_parts, and_from, le-leb}
use Rattle.kinds.specs.Kinds.{Meaning}
use Rattle.book.specs.declared.position.Position.{Position}
use Rattle.book.specs.Losses.{gross, all_held}
use Rattle.book.specs.Trades.{put, traded, traded_at}

module _ {C : Type 0} (K : Meaning C) (c : C) (q : ℤ) where
  pub traded_new : (ps : List (Position C)) → AllByRecursion (λ p. K.same p.contract c ≡ false) ps → traded K c q ps ≡ ps ++ put c q []
  traded_new [] h = refl
  traded_new (p ∷ ps) h =
      ap (λ t. cond t (put p.contract (p.net +ℤ q) ps) (p ∷ traded K c q ps)) h.0 ∙ ap (λ qs. p ∷ qs) (traded_new ps h.1)

  pub traded_held : (ps : List (Position C)) (i : ℕ) (p : Position C) → i < length ps → p ≡ get_or ps i p → AllByRecursion (λ o. K.same o.contract c ≡ false) (take i ps) → K.same p.contract c ≡ true → traded K c q ps ≡ traded_at ps i p q
  traded_held [] i p l e h s = absurd (omega arith)
  traded_held (o ∷ ps) zero p l e h s =
      ap (λ (x : Position C). cond (K.same x.contract c) (put x.contract (x.net +ℤ q) ps) (x ∷ traded K c q ps)) (sym e)
      ∙ ap (λ t. cond t (put p.contract (p.net +ℤ q) ps) (p ∷ traded K c q ps)) s
  traded_held (o ∷ ps) (suc i) p l e h s =
      ap (λ t. cond t (put o.contract (o.net +ℤ q) ps) (o ∷ traded K c q ps)) h.0
      ∙ ap (λ qs. o ∷ qs) (traded_held ps i p (omega arith) e h.1 s)

module _ {C : Type 0} where
  pub gross_append : (xs ys : List (Position C)) → gross (xs ++ ys) ≡ gross xs + gross ys
  gross_append [] ys = omega arith
  gross_append (x ∷ xs) ys = omega (arith, gross_append xs ys)

  pub gross_put : (c : C) (z : ℤ) (ps : List (Position C)) → gross (put c z ps) ≡ nat_abs z + gross ps
  gross_put c (pos zero) ps = omega arith
  gross_put c (pos (suc n)) ps = refl
  gross_put c (negsuc n) ps = refl

  pub gross_held : (ps : List (Position C)) (i : ℕ) (p : Position C) → i < length ps → p ≡ get_or ps i p → gross ps ≡ gross (take i ps) + (nat_abs p.net + gross (drop (suc i) ps))
  gross_held [] i p l e = absurd (omega arith)
  gross_held (o ∷ ps) zero p l e = omega (arith, ap (λ (x : Position C). nat_abs x.net) e)
  gross_held (o ∷ ps) (suc i) p l e = omega (arith, gross_held ps i p (omega arith) e)

  -- the contracts in all after a trade in a held contract
  pub gross_at : (ps : List (Position C)) (i : ℕ) (p : Position C) (q : ℤ) → i < length ps → p ≡ get_or ps i p → gross (traded_at ps i p q) + nat_abs p.net ≡ gross ps + nat_abs (p.net +ℤ q)
  gross_at ps i p q l e =
      omega (arith, gross_append (take i ps) (put p.contract (p.net +ℤ q) (drop (suc i) ps)), gross_put p.contract (p.net +ℤ q) (drop (suc i) ps), gross_held ps i p l e)

  -- no net quantity is zero
  pub held_append : (xs ys : List (Position C)) → all_held xs ≡ true → all_held ys ≡ true → all_held (xs ++ ys) ≡ true
  held_append [] ys h k = k
  held_append (x ∷ xs) ys h k =
      let p = and_parts (leb 1 (nat_abs x.net)) (all_held xs) h in
      and_from (leb 1 (nat_abs x.net)) (all_held (xs ++ ys)) p.0 (held_append xs ys p.1 k)

  pub held_take : (i : ℕ) (ps : List (Position C)) → all_held ps ≡ true → all_held (take i ps) ≡ true
  held_take zero ps h = refl
  held_take (suc i) [] h = refl
  held_take (suc i) (p ∷ ps) h =
      let b = and_parts (leb 1 (nat_abs p.net)) (all_held ps) h in
      and_from (leb 1 (nat_abs p.net)) (all_held (take i ps)) b.0 (held_take i ps b.1)

  pub held_drop : (i : ℕ) (ps : List (Position C)) → all_held ps ≡ true → all_held (drop i ps) ≡ true
  held_drop zero ps h = h
  held_drop (suc i) [] h = refl
  held_drop (suc i) (p ∷ ps) h = held_drop i ps (and_parts (leb 1 (nat_abs p.net)) (all_held ps) h).1

  pub put_some : (c : C) (z : ℤ) (ps : List (Position C)) → 1 ≤ nat_abs z → put c z ps ≡ record { contract = c; net = z } ∷ ps
  put_some c (pos zero) ps h = absurd (omega arith)
  put_some c (pos (suc n)) ps h = refl
  put_some c (negsuc n) ps h = refl

  pub put_held : (c : C) (z : ℤ) (ps : List (Position C)) → all_held ps ≡ true → all_held (put c z ps) ≡ true
  put_held c (pos zero) ps h = h
  put_held c (pos (suc n)) ps h = and_from (leb 1 (suc n)) (all_held ps) (le-leb 1 (suc n) (omega arith)) h
  put_held c (negsuc n) ps h = and_from (leb 1 (suc n)) (all_held ps) (le-leb 1 (suc n) (omega arith)) h

  pub at_held : (ps : List (Position C)) (i : ℕ) (p : Position C) (q : ℤ) → all_held ps ≡ true → all_held (traded_at ps i p q) ≡ true
  at_held ps i p q h = held_append (take i ps) (put p.contract (p.net +ℤ q) (drop (suc i) ps)) (held_take i ps h) (put_held p.contract (p.net +ℤ q) (drop (suc i) ps) (held_drop (suc i) ps h))

  -- a net quantity of zero goes, any other is set
  pub at_zero : (ps : List (Position C)) (i : ℕ) (p : Position C) (q : ℤ) → p.net +ℤ q ≡ pos 0 → traded_at ps i p q ≡ remove ps i
  at_zero ps i p q e = ap (λ z. take i ps ++ put p.contract z (drop (suc i) ps)) e

  pub at_some : (ps : List (Position C)) (i : ℕ) (p : Position C) (q : ℤ) → i < length ps → 1 ≤ nat_abs (p.net +ℤ q) → traded_at ps i p q ≡ set ps i (record { contract = p.contract; net = p.net +ℤ q })
  at_some ps i p q l h = ap (λ qs. take i ps ++ qs) (put_some p.contract (p.net +ℤ q) (drop (suc i) ps) h) ∙ sym (set_split ps i (record { contract = p.contract; net = p.net +ℤ q }) l)

  length_put : (c : C) (z : ℤ) (ps : List (Position C)) → length (put c z ps) ≤ suc (length ps)
  length_put c (pos zero) ps = omega arith
  length_put c (pos (suc n)) ps = omega arith
  length_put c (negsuc n) ps = omega arith

  -- a trade in a held contract needs no place
  pub length_at : (ps : List (Position C)) (i : ℕ) (p : Position C) (q : ℤ) → i < length ps → length (traded_at ps i p q) ≤ length ps
  length_at ps i p q l =
      omega (arith, length-append (take i ps) (put p.contract (p.net +ℤ q) (drop (suc i) ps)), length-take i ps, length_put p.contract (p.net +ℤ q) (drop (suc i) ps), length-drop (suc i) ps)
