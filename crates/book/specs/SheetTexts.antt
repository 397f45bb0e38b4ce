-- The sheet of a book: its lines one after another.
use Rattle.std.specs.Prelude.{◌≡◌, ℕ, ◌<◌, ◌≤◌, List, ◌∷◌, ◌++◌, map, length, drop, Ok, Err, Result}
use Rattle.std.specs.List.{flat_map}
use Rattle.sheet.specs.declared.form.Word.TheVariants.{Market, Positions}
use Rattle.sheet.specs.LineBytes.{number_bytes, head_bytes}
use Rattle.sheet.specs.StoredKinds.{Storing, position_bytes}
use Rattle.book.specs.declared.position.Position.{Position}
use Rattle.book.specs.declared.refusal.Refusal.{Refusal}
use Rattle.book.specs.declared.refusal.Refusal.TheVariants.{Buffer}
use Rattle.book.specs.Tallies.{Tally}

abbrev pub position_line : {C : Type 0} → Storing C → Position C → List ℕ
position_line s p = position_bytes (s.written p.contract) p.net

-- The market's head and its five numbers, the positions' head and a line for each position.
abbrev pub sheet_lines : {C : Type 0} → Storing C → Tally C → List (List ℕ)
sheet_lines s t =
    head_bytes Market 5 ∷ number_bytes t.market.ceiling ∷ number_bytes t.market.reference ∷ number_bytes t.market.factor ∷ number_bytes t.market.size ∷ number_bytes t.market.rate
    ∷ head_bytes Positions (length t.positions) ∷ map (position_line s) t.positions

abbrev pub sheet_of : {C : Type 0} → Storing C → Tally C → List ℕ
sheet_of s t = flat_map (λ l. l) (sheet_lines s t)

-- The text stands at the front of the buffer and no byte behind it is touched; too short a buffer is refused with the bytes
-- needed and stays as it was.
abbrev pub SheetWritten : List ℕ → List ℕ → List ℕ → Result ℕ Refusal → Type 0
SheetWritten text old new (Ok n) = (n ≡ length text) × (length text ≤ length old) × (new ≡ text ++ drop (length text) old)
SheetWritten text old new (Err e) = (e ≡ Buffer (length text)) × (length old < length text) × (new ≡ old)
