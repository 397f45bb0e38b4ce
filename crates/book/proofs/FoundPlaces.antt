-- Where a test first passes in a list.
use Rattle.std.proofs.Common.{◌≡◌, ℕ, suc, ◌+◌, ◌<◌, ◌≤◌, Bool, true, false, cond, not, List, [], ◌∷◌, length, get_or, take, Some, None, Option, sym, refl, ap, ◌∙◌, subst, ⊎_elim, arith}
use Rattle.std.specs.Option.{option_map}
use Rattle.std.specs.List.{AllByRecursion, position, position_or_len}
use Rattle.std.proofs.lemmas.Bool.{cases_Bool, ltb-true, ltb-false}
use Rattle.std.proofs.lemmas.Option.{cond_some}
use Rattle.std.proofs.lemmas.List.Quantifiers.{position-Some}

-- The test passes at i, and nowhere before it.
pub record First {X : Type 0} (p : X → Bool) (i : ℕ) (xs : List X) : Type 0 where
  pub inside : i < length xs
  pub none_before : AllByRecursion (λ x. p x ≡ false) (take i xs)
  pub passes : (d : X) → p (get_or xs i d) ≡ true

module _ {X : Type 0} (p : X → Bool) where
  at_once : (x : X) (xs : List X) → p x ≡ true → position_or_len p (x ∷ xs) ≡ 0
  at_once x xs t = ap (λ b. cond (not b) (1 + position_or_len p xs) 0) t

  later : (x : X) (xs : List X) → p x ≡ false → position_or_len p (x ∷ xs) ≡ suc (position_or_len p xs)
  later x xs f = ap (λ b. cond (not b) (1 + position_or_len p xs) 0) f ∙ omega arith

  passed_by : (xs : List X) → AllByRecursion (λ x. p x ≡ false) (take (position_or_len p xs) xs)
  passed_by [] = tt
  passed_by (x ∷ xs) =
      ⊎_elim
      (λ t. subst (λ n. AllByRecursion (λ y. p y ≡ false) (take n (x ∷ xs))) (sym (at_once x xs t)) tt)
      (λ f. subst (λ n. AllByRecursion (λ y. p y ≡ false) (take n (x ∷ xs))) (sym (later x xs f)) (f, passed_by xs))
      (cases_Bool (p x))

  all_passed : (xs : List X) → length xs ≤ position_or_len p xs → AllByRecursion (λ x. p x ≡ false) xs
  all_passed [] h = tt
  all_passed (x ∷ xs) h =
      ⊎_elim (λ t. absurd (omega (arith, at_once x xs t))) (λ f. (f, all_passed xs (omega (arith, later x xs f)))) (cases_Bool (p x))

  none_at : (b : Bool) (n : ℕ) → cond b (Some n) None ≡ None → b ≡ false
  none_at true n h = cc
  none_at false n h = cc

  pub none_passes : (xs : List X) → position p xs ≡ None → AllByRecursion (λ x. p x ≡ false) xs
  none_passes xs h = all_passed xs (ltb-false (position_or_len p xs) (length xs) (none_at _ _ h))

  pub first_passes : (xs : List X) (i : ℕ) → position p xs ≡ Some i → First p i xs
  first_passes xs i h = record {
    inside = let e = cond_some _ _ i h in subst (λ n. n < length xs) e.1 (ltb-true _ _ e.0);
    none_before = subst (λ n. AllByRecursion (λ x. p x ≡ false) (take n xs)) (cond_some _ _ i h).1 (passed_by xs);
    passes = λ d. (position-Some p xs i d h).1;
  }

-- A place that is counted from another one on.
pub shifted : (i : ℕ) (o : Option ℕ) → option_map (λ n. i + n) (option_map suc o) ≡ option_map (λ n. i + 1 + n) o
shifted i None = refl
shifted i (Some n) = ap (λ k. Some k) (omega arith)
