-- How long the parts of a line are.
use Rattle.std.proofs.Common.{◌≡◌, ℕ, ◌+◌, ◌^◌, ◌<◌, ◌≤◌, List, [], ◌∷◌, ◌++◌, length, ℤ, decimal, ap, arith, length-append, w32, SFits}
use Rattle.std.specs.Fmt.{signed_decimal}
use Rattle.std.proofs.lemmas.List.{length_push}
use Rattle.std.proofs.lemmas.Fmt.{length-decimal-le, length_signed_le}
use Rattle.sheet.specs.declared.form.Word.{Word}
use Rattle.sheet.specs.declared.form.Word.TheVariants.{Market, Positions, Scenarios}
use Rattle.sheet.specs.Forms.{word_bytes}

pub number_length : (n : ℕ) → n < 2 ^ 32 → length (decimal n) ≤ 10
number_length n h = length-decimal-le 10 n (omega arith) (omega arith) (omega arith)

pub quantity_length : (z : ℤ) → SFits w32 z → length (signed_decimal z) ≤ 11
quantity_length z f = length_signed_le 10 z (omega (arith, f.sfits)) (omega (arith, f.sfits))

pub word_length : (w : Word) → length (word_bytes w) ≤ 9
word_length Market = omega arith
word_length Positions = omega arith
word_length Scenarios = omega arith

-- after the fields of a side and a strike, and a space, there is room for a number
pub room_for_number : (bs cs : List ℕ) (n : ℕ) → length bs ≤ 12 → cs ≡ bs ++ 32 ∷ [] → n < 2 ^ 32 → length cs + length (decimal n) ≤ 64
room_for_number bs cs n short is h = omega (arith, short, ap length is, length_push bs 32, number_length n h)

-- and the line then has at most 51 bytes
pub short_with_number : (bs cs ds : List ℕ) (n : ℕ) → length bs ≤ 12 → cs ≡ bs ++ 32 ∷ [] → ds ≡ cs ++ decimal n → n < 2 ^ 32 → length ds ≤ 51
short_with_number bs cs ds n short is end h = omega (arith, short, ap length is, length_push bs 32, ap length end, length-append cs (decimal n), number_length n h)

-- after the fields of a contract, and a space, there is room for a quantity
pub room_for_quantity : (bs cs : List ℕ) (z : ℤ) → length bs ≤ 51 → cs ≡ bs ++ 32 ∷ [] → SFits w32 z → length cs + length (signed_decimal z) ≤ 64
room_for_quantity bs cs z short is f = omega (arith, short, ap length is, length_push bs 32, quantity_length z f)

-- and behind it for the line feed
pub room_for_end : (bs cs ds : List ℕ) (z : ℤ) → length bs ≤ 51 → cs ≡ bs ++ 32 ∷ [] → ds ≡ cs ++ signed_decimal z → SFits w32 z → length ds < 64
room_for_end bs cs ds z short is end f = omega (arith, short, ap length is, length_push bs 32, ap length end, length-append cs (signed_decimal z), quantity_length z f)
