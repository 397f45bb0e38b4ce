-- The forms that a field may have, and how far the fields of a line have the forms that are asked.
use Rattle.std.specs.Prelude.{ℕ, suc, ◌+◌, Bool, true, false, cond, ◌&&◌, ◌||◌, List, [], ◌∷◌, is_some, codes}
use Rattle.std.specs.Str.{bytes_eq}
use Rattle.sheet.specs.declared.form.Word.{Word}
use Rattle.sheet.specs.declared.form.Word.TheVariants.{Market, Positions, Scenarios}
use Rattle.sheet.specs.declared.form.Form.{Form}
use Rattle.sheet.specs.declared.form.Form.TheVariants.{Head, Five, Number, Quantity, Letter, Limiter}
use Rattle.sheet.specs.Decimals.{number_of, quantity_of}
use Rattle.sheet.specs.Cuts.{before, after, fields}

abbrev pub word_bytes : Word → List ℕ
word_bytes Market = codes "market"
word_bytes Positions = codes "positions"
word_bytes Scenarios = codes "scenarios"

-- `market 5` is a fixed head; the others tell a number.
abbrev pub head_number : Word → Form
head_number Market = Five
head_number Positions = Number
head_number Scenarios = Number

abbrev pub head_forms : Word → List Form
head_forms word = Head word ∷ head_number word ∷ []

abbrev pub is_form : Form → List ℕ → Bool
is_form (Head w) bs = bytes_eq bs (word_bytes w)
is_form Five bs = bytes_eq bs (codes "5")
is_form Number bs = is_some (number_of 8 bs)
is_form Quantity bs = is_some (quantity_of bs)
is_form Letter bs = bytes_eq bs (codes "C") || bytes_eq bs (codes "P")
is_form Limiter bs = bytes_eq bs (codes "-") || is_some (number_of 8 bs)

-- The fields are as many as the forms, and each has its form.
abbrev pub of_forms : List Form → List (List ℕ) → Bool
of_forms [] [] = true
of_forms [] (f ∷ fs) = false
of_forms (p ∷ ps) [] = false
of_forms (p ∷ ps) (f ∷ fs) = is_form p f && of_forms ps fs

-- How many fields from the first on have their form.
abbrev pub good_fields : List Form → List (List ℕ) → ℕ
good_fields [] fs = 0
good_fields (p ∷ ps) [] = 0
good_fields (p ∷ ps) (f ∷ fs) = cond (is_form p f) (suc (good_fields ps fs)) 0

-- The bytes begin with a line that ends in a line feed and whose fields have these forms.
abbrev pub well_formed : List Form → List ℕ → Bool
well_formed forms bs = is_some (after 10 bs) && of_forms forms (fields (before 10 bs))

-- The field of a malformed line: one more than the good fields before the fault.
abbrev pub fault_field : List Form → List ℕ → ℕ
fault_field forms bs = good_fields forms (fields (before 10 bs)) + 1
