-- Decimal numbers in a sheet: one to `most` digits, no leading zero but 0 itself; a quantity may have a minus.
use Rattle.std.specs.Prelude.{◌≡◌, ℕ, zero, suc, ◌+◌, ◌-◌, ◌*◌, ◌^◌, ◌<◌, Bool, true, false, cond, not, ◌&&◌, List, [], ◌∷◌, length, ℤ, pos, negsuc, Some, None, decimal, Option, ◌==◌, nat_le, unsigned_abs}
use Rattle.std.specs.Fmt.{signed_decimal}
use Rattle.std.specs.Str.{all_ascii_digits}

-- The number that digits write after those of n.
abbrev pub read_on : ℕ → List ℕ → ℕ
read_on n [] = n
read_on n (b ∷ bs) = read_on (n * 10 + (b - 48)) bs

-- Some digit, and no zero in front of another.
abbrev pub well_led : List ℕ → Bool
well_led [] = false
well_led (b ∷ []) = true
well_led (b ∷ c ∷ bs) = not (b == 48)

abbrev pub is_number : ℕ → List ℕ → Bool
is_number most bs = well_led bs && (nat_le (length bs) most && all_ascii_digits bs)

-- The number that a field writes, if it is one.
abbrev pub number_of : ℕ → List ℕ → Option ℕ
number_of most bs = cond (is_number most bs) (Some (read_on 0 bs)) None

-- A minus stands only before a number that is not 0.
abbrev pub negated : Option ℕ → Option ℤ
negated None = None
negated (Some zero) = None
negated (Some (suc n)) = Some (negsuc n)

abbrev pub unsigned : Option ℕ → Option ℤ
unsigned None = None
unsigned (Some n) = Some (pos n)

-- The quantity that a field writes, if it is one: a number of one to eight digits, with a minus where it is negative.
abbrev pub quantity_of : List ℕ → Option ℤ
quantity_of [] = None
quantity_of (b ∷ bs) = cond (b == 45) (negated (number_of 8 bs)) (unsigned (number_of 8 (b ∷ bs)))

-- Reading a number and writing one are inverse to each other.
pub record NumbersInverse (most : ℕ) : Type 0 where
  pub written_reads : (n : ℕ) → n < 10 ^ most → number_of most (decimal n) ≡ Some n
  pub read_writes : (bs : List ℕ) (n : ℕ) → number_of most bs ≡ Some n → (n < 10 ^ most) × (decimal n ≡ bs)

-- And so are reading a quantity and writing one.
pub record QuantitiesInverse : Type 0 where
  pub written_reads : (z : ℤ) → unsigned_abs z < 10 ^ 8 → quantity_of (signed_decimal z) ≡ Some z
  pub read_writes : (bs : List ℕ) (z : ℤ) → quantity_of bs ≡ Some z → (unsigned_abs z < 10 ^ 8) × (signed_decimal z ≡ bs)
