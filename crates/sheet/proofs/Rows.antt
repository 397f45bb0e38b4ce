-- The fields of a line in their places.
use Rattle.std.proofs.Common.{◌≡◌, [], ◌∷◌, length, sym, refl}
use Rattle.sheet.specs.declared.field.Field.{Field}
use Rattle.sheet.specs.Cuts.{fields}
use Rattle.sheet.specs.ReadLines.{FieldsTold}
use Rattle.sheet.proofs.Marks.{last_field}

-- The last field stands alone.
pub lone_told : (l : Field) → length (fields l.bytes.now) ≡ 1 → FieldsTold (l ∷ []) l.bytes.now l.line l.offset
lone_told l n = record { bytes_are = sym (last_field l.bytes.now n); places = (refl, refl, tt) }
