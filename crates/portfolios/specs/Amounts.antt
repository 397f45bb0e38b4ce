-- Amounts in hundredths as text.
use Rattle.std.specs.Prelude.{◌≡◌, ℕ, ◌/◌, ◌%◌, ◌<◌, ◌≤◌, List, [], ◌++◌, ℤ, pos, negsuc, codes, decimal, unsigned_abs}

-- The digits of n with a comma before each three from the right.
pub data Grouped : ℕ → List ℕ → Type 0 where
  below : (n : ℕ) → n < 1000 → Grouped n (decimal n)
  above : (n : ℕ) (front : List ℕ) → 1000 ≤ n → Grouped (n / 1000) front → Grouped n (front ++ (codes "," ++ (decimal (n / 100 % 10) ++ (decimal (n / 10 % 10) ++ decimal (n % 10)))))

abbrev pub sign : ℤ → List ℕ
sign (pos n) = []
sign (negsuc n) = codes "-"

-- A sign if the amount is below zero, the whole part in groups, a point and two digits.
pub record Hundredths (amount : ℤ) (text : List ℕ) : Type 0 where
  pub whole : List ℕ
  pub grouped : Grouped (unsigned_abs amount / 100) whole
  pub is : text ≡ sign amount ++ (whole ++ (codes "." ++ (decimal (unsigned_abs amount / 10 % 10) ++ decimal (unsigned_abs amount % 10))))
