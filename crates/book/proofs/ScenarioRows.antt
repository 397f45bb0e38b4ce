-- The value of a row of scenario values, position by position, and how large it is.
use Rattle.std.proofs.Common.{◌≡◌, ℕ, zero, suc, ◌+◌, ◌*◌, ◌<◌, ◌≤◌, List, [], ◌∷◌, length, get_or, take, pos, ◌+ℤ◌, ◌*ℤ◌, nat_abs, ap, ◌∙◌, le_refl, add-mul, add-one, arith}
use borrow.Author.Differences.{ints}
use Rattle.book.specs.declared.position.Position.{Position}
use Rattle.book.specs.Losses.{gross}
use Rattle.book.specs.Scenarios.{row_value}
use Rattle.book.proofs.ValueBounds.{product_most}

module _ {C : Type 0} where
  more : (ps : List (Position C)) (xs : List ℕ) (i : ℕ) (p : Position C) → i < length ps → i < length xs → p ≡ get_or ps i p → row_value (take (suc i) ps) (take (suc i) xs) ≡ row_value (take i ps) (take i xs) +ℤ (p.net *ℤ pos (get_or xs i 0))
  more [] xs i p l k e = absurd (omega arith)
  more (o ∷ ps) [] i p l k e = absurd (omega arith)
  more (o ∷ ps) (x ∷ xs) zero p l k e = let n = ap (λ (q : Position C). q.net *ℤ pos x) e in omega (arith, ints)
  more (o ∷ ps) (x ∷ xs) (suc i) p l k e = let rest = more ps xs i p (omega arith) (omega arith) e in omega (arith, ints)

  -- one position more
  pub row_more : (ps : List (Position C)) (xs : List ℕ) (i : ℕ) (p : Position C) → i < length ps → i < length xs → p ≡ get_or ps i p → row_value (take (i + 1) ps) (take (i + 1) xs) ≡ row_value (take i ps) (take i xs) +ℤ (p.net *ℤ pos (get_or xs i 0))
  row_more ps xs i p l k e = ap (λ n. row_value (take n ps) (take n xs)) (add-one i) ∙ more ps xs i p l k e

  -- a row whose values have a limit
  pub row_most : (i : ℕ) (ps : List (Position C)) (xs : List ℕ) (limit : ℕ) → ((k : ℕ) → get_or xs k 0 ≤ limit) → nat_abs (row_value (take i ps) (take i xs)) ≤ gross (take i ps) * limit
  row_most zero ps xs limit h = omega arith
  row_most (suc i) [] xs limit h = omega arith
  row_most (suc i) (p ∷ ps) [] limit h = omega arith
  row_most (suc i) (p ∷ ps) (x ∷ xs) limit h =
      let here = product_most p.net x (nat_abs p.net) limit (le_refl _) (h 0) in
      let rest = row_most i ps xs limit (λ k. h (suc k)) in
      omega (arith, ints, add-mul (nat_abs p.net) (gross (take i ps)) limit)
