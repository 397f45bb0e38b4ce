-- Numbers of centavos that cover the losses of scenarios.
use Rattle.std.proofs.Common.{◌≡◌, ℕ, zero, suc, ◌*◌, ◌≤◌, max, false, ltb, List, [], ◌∷◌, get_or, ℤ, pos, ◌≤ℤ◌, None, arith}
use borrow.Author.Differences.{ints}
use Rattle.std.specs.List.{AllByRecursion}
use Rattle.std.proofs.lemmas.Bool.{ltb-false}
use Rattle.book.specs.Prices.{centavos, Covers, CoversBoth, Least}
use Rattle.book.specs.Scenarios.{greatest, first_above}
use Rattle.book.proofs.FoundPlaces.{none_passes}
use Rattle.book.proofs.Rounding.{centavos_cover, centavos_least}

pub record Holds (m : ℕ) (zs : List ℤ) (n : ℕ) : Type 0 where
  pub start : m ≤ n
  pub each : AllByRecursion (λ z. z ≤ℤ pos (n * 1000000)) zs

pub greatest_holds : (m : ℕ) (zs : List ℤ) → Holds m zs (greatest m zs)
greatest_holds m [] = record { start = omega arith; each = tt }
greatest_holds m (z ∷ zs) =
    let rest = greatest_holds (max m (centavos z)) zs in
    let s = rest.start in
    let c = centavos_cover z in
    record { start = omega arith; each = (omega (arith, ints), rest.each) }

pub greatest_least : (m : ℕ) (zs : List ℤ) (n : ℕ) → m ≤ n → AllByRecursion (λ z. z ≤ℤ pos (n * 1000000)) zs → greatest m zs ≤ n
greatest_least m [] n h a = h
greatest_least m (z ∷ zs) n h a =
    let c = centavos_least z n a.0 in
    greatest_least (max m (centavos z)) zs n (omega arith) a.1

weaker : (m n : ℕ) (zs : List ℤ) → m ≤ n → AllByRecursion (λ z. z ≤ℤ pos (m * 1000000)) zs → AllByRecursion (λ z. z ≤ℤ pos (n * 1000000)) zs
weaker m n [] l h = tt
weaker m n (z ∷ zs) l h = let k = h.0 in (omega (arith, ints), weaker m n zs l h.1)

-- the greater of both least numbers covers both, and no lesser does
pub both_least : (f : ℕ → ℤ) (zs : List ℤ) (m : ℕ) → Least (Covers f) m → Least (CoversBoth f zs) (max m (greatest 0 zs))
both_least f zs m l =
    let n = greatest 0 zs in
    let h = greatest_holds 0 zs in
    record {
      holds = (λ x. let k = l.holds x in omega (arith, ints), weaker n (max m n) zs (omega arith) h.each);
      least = λ k c. let a = l.least k c.0 in let b = greatest_least 0 zs k (omega arith) c.1 in omega arith;
    }

-- where no value is above the limit, each is at most the limit
all_low : (limit : ℕ) (xs : List ℕ) → AllByRecursion (λ x. ltb limit x ≡ false) xs → (k : ℕ) → get_or xs k 0 ≤ limit
all_low limit [] h k = omega arith
all_low limit (x ∷ xs) h zero = ltb-false limit x h.0
all_low limit (x ∷ xs) h (suc k) = all_low limit xs h.1 k

pub none_above : (limit : ℕ) (xs : List ℕ) → first_above limit xs ≡ None → (k : ℕ) → get_or xs k 0 ≤ limit
none_above limit xs h = all_low limit xs (none_passes (ltb limit) xs h)
