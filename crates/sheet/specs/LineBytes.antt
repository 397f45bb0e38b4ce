-- The bytes of the lines that a sheet has, and what a writing call leaves in a buffer.
use Rattle.std.specs.Prelude.{◌≡◌, ℕ, ◌<◌, ◌≤◌, List, [], ◌∷◌, ◌++◌, length, drop, Ok, Err, decimal, Result}
use Rattle.sheet.specs.declared.form.Word.{Word}
use Rattle.sheet.specs.declared.too_short.TooShort.{TooShort}
use Rattle.sheet.specs.Forms.{word_bytes}

abbrev pub number_bytes : ℕ → List ℕ
number_bytes n = decimal n ++ (10 ∷ [])

abbrev pub head_bytes : Word → ℕ → List ℕ
head_bytes word n = word_bytes word ++ (32 ∷ number_bytes n)

-- The text stands at the front of the buffer and no byte behind it is touched; too short a buffer stays as it was.
abbrev pub WrittenTo : List ℕ → List ℕ → List ℕ → Result ℕ TooShort → Type 0
WrittenTo text old new (Ok n) = (n ≡ length text) × (length text ≤ length old) × (new ≡ text ++ drop (length text) old)
WrittenTo text old new (Err e) = (e.needed ≡ length text) × (length old < length text) × (new ≡ old)
