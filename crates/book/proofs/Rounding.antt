-- The least number of centavos that covers a loss at every whole price.
use Rattle.std.proofs.Common.{◌≡◌, ℕ, ◌*◌, ◌≤◌, max, Bool, true, false, cond, ℤ, pos, negsuc, ◌≤ℤ◌, int_lt, refl, arith}
use borrow.Author.Differences.{ints}
use Rattle.std.specs.Int.{int_max}
use Rattle.book.specs.Prices.{Worst, Covers, Least, centavos}

pub centavos_cover : (z : ℤ) → z ≤ℤ pos (centavos z * 1000000)
centavos_cover (pos n) = omega (arith, ints)
centavos_cover (negsuc n) = omega (arith, ints)

pub centavos_least : (z : ℤ) (m : ℕ) → z ≤ℤ pos (m * 1000000) → centavos z ≤ m
centavos_least (pos n) m h = omega (arith, ints)
centavos_least (negsuc n) m h = omega (arith, ints)

centavos_more : (a b : ℤ) → a ≤ℤ b → centavos a ≤ centavos b
centavos_more a b h = centavos_least a (centavos b) (let up = centavos_cover b in omega (arith, ints))

-- rounding up the greater of two losses gives the greater of the two rounded up
pub centavos_max : (a b : ℤ) → centavos (int_max a b) ≡ max (centavos a) (centavos b)
centavos_max a b = by (int_lt b a) refl
  where
    by : (t : Bool) → int_lt b a ≡ t → centavos (cond t a b) ≡ max (centavos a) (centavos b)
    by true e = let l = centavos_more b a (omega (arith, ints)) in omega (arith, l)
    by false e = let l = centavos_more a b (omega (arith, ints)) in omega (arith, l)

pub worst_covers : (f : ℕ → ℤ) (p : ℕ) → Worst f p → Least (Covers f) (centavos (f p))
worst_covers f p w = record {
  holds = λ x. let h = w.greatest x in let k = centavos_cover (f p) in omega (arith, ints);
  least = λ m c. centavos_least (f p) m (c p);
}

-- a loss that is nowhere less wants no fewer centavos
pub least_mono : (f g : ℕ → ℤ) (m n : ℕ) → ((x : ℕ) → f x ≤ℤ g x) → Least (Covers f) m → Least (Covers g) n → m ≤ n
least_mono f g m n h a b = a.least n (λ x. let i = h x in let j = b.holds x in omega (arith, ints))
