-- Sides as letters, and what the lines of both kinds share.
use Rattle.std.specs.Prelude.{◌≡◌, ℕ, ◌≤◌, Bool, true, false, cond, ◌&&◌, ◌||◌, List, [], ◌∷◌, length, is_some, Some, None, decimal, ◌==◌, nat_le, refl}
use Rattle.std.proofs.Common.{sym, ap, arith}
use Rattle.std.proofs.lemmas.Fmt.{length-decimal-le}
use Rattle.std.proofs.lemmas.Bool.{and_parts, leb-true, eqb-true}
use Rattle.kinds.specs.declared.side.Side.{Side}
use Rattle.kinds.specs.declared.side.Side.TheVariants.{Call, Put}
use Rattle.kinds.specs.Sides.{strike_right}
use Rattle.sheet.specs.declared.form.Form.TheVariants.{Letter}
use Rattle.sheet.specs.Decimals.{number_of}
use Rattle.sheet.specs.Forms.{is_form}
use Rattle.sheet.specs.ListedLines.{letter, side_of}
use Rattle.sheet.specs.Numerals.{short_numbers}

letter_formed : (t u : Bool) → is_some (cond t (Some Call) (cond u (Some Put) None)) ≡ ((t && true) || (u && true))
letter_formed true u = refl
letter_formed false true = refl
letter_formed false false = refl

word_formed : (t u : Bool) → false ≡ ((t && false) || (u && false))
word_formed true true = refl
word_formed true false = refl
word_formed false true = refl
word_formed false false = refl

pub side_formed : (bs : List ℕ) → is_some (side_of bs) ≡ is_form Letter bs
side_formed [] = refl
side_formed (b ∷ []) = letter_formed (b == 67) (b == 80)
side_formed (b ∷ c ∷ bs) = word_formed (b == 67) (b == 80)

pub side_reads : (s : Side) → side_of (letter s ∷ []) ≡ Some s
side_reads Call = refl
side_reads Put = refl

letter_writes : (b : ℕ) (t u : Bool) (s : Side) → (b == 67) ≡ t → (b == 80) ≡ u → cond t (Some Call) (cond u (Some Put) None) ≡ Some s → letter s ≡ b
letter_writes b true u Call p q h = sym (eqb-true b 67 p)
letter_writes b true u Put p q h = cc
letter_writes b false true Call p q h = cc
letter_writes b false true Put p q h = sym (eqb-true b 80 q)
letter_writes b false false s p q h = cc

pub side_writes : (bs : List ℕ) (s : Side) → side_of bs ≡ Some s → letter s ∷ [] ≡ bs
side_writes [] s h = cc
side_writes (b ∷ []) s h = ap (λ x. x ∷ []) (letter_writes b (b == 67) (b == 80) s refl refl h)
side_writes (b ∷ c ∷ bs) s h = cc

-- a number in its range reads back, and has at most eight digits
pub short_reads : (n : ℕ) → n ≤ 20000000 → number_of 8 (decimal n) ≡ Some n
short_reads n h = short_numbers.written_reads n (omega arith)

pub short_writes : (bs : List ℕ) (n : ℕ) → number_of 8 bs ≡ Some n → decimal n ≡ bs
short_writes bs n h = (short_numbers.read_writes bs n h).1

pub short_length : (n : ℕ) → n ≤ 20000000 → length (decimal n) ≤ 8
short_length n h = length-decimal-le 8 n (omega arith) (omega arith) (omega arith)

pub strike_low : (n : ℕ) → strike_right n ≡ true → n ≤ 20000000
strike_low n h = leb-true n 20000000 (and_parts (nat_le 1 n) (nat_le n 20000000) h).1
