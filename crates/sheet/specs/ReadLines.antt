-- What the reader tells of the next line: it went past a well-formed line, or it told the malformed one and stayed before it.
-- The reader stood at the offset `at` after `lines` lines, and stands at `at'` after `lines'`.
use Rattle.std.specs.Prelude.{◌≡◌, ℕ, ◌+◌, true, false, List, [], ◌∷◌, ◌++◌, map, length, drop, Some, Ok, Err, Result}
use Rattle.std.specs.Option.{option_to_list}
use Rattle.sheet.specs.declared.field.Field.{Field}
use Rattle.sheet.specs.declared.form.Form.{Form}
use Rattle.sheet.specs.declared.form.Form.TheVariants as form
use Rattle.sheet.specs.declared.line.PositionLine.{PositionLine}
use Rattle.sheet.specs.declared.line.Line.{Line}
use Rattle.sheet.specs.declared.line.Line.TheVariants as line
use Rattle.sheet.specs.declared.fault.Fault.{Fault}
use Rattle.sheet.specs.declared.fault.Fault.TheVariants as fault
use Rattle.sheet.specs.Cuts.{before, after, fields}
use Rattle.sheet.specs.Forms.{well_formed, fault_field}

pub record Passed (forms : List Form) (sheet : List ℕ) (at lines at' lines' : ℕ) : Type 0 where
  pub well : well_formed forms (drop at sheet) ≡ true
  pub rest : after 10 (drop at sheet) ≡ Some (drop at' sheet)
  pub at_is : at' ≡ at + length (before 10 (drop at sheet)) + 1
  pub lines_is : lines' ≡ lines + 1

pub record Stayed (forms : List Form) (sheet : List ℕ) (at lines at' lines' : ℕ) (e : Fault) : Type 0 where
  pub malformed : well_formed forms (drop at sheet) ≡ false
  pub fault_is : e ≡ fault.Field (lines + 1) (fault_field forms (drop at sheet))
  pub at_is : at' ≡ at
  pub lines_is : lines' ≡ lines

abbrev pub position_fields : PositionLine → List Field
position_fields p = p.side ∷ p.strike ∷ (option_to_list p.limiter ++ p.quantity ∷ [])

abbrev pub line_fields : Line → List Field
line_fields (line.Head w n) = w ∷ n ∷ []
line_fields (line.Number f) = f ∷ []
line_fields (line.Position p) = position_fields p

-- The fields stand one after another from this offset on, with one byte between them.
abbrev pub InRow : ℕ → ℕ → List Field → Type 0
InRow line offset [] = Unit {0}
InRow line offset (f ∷ fs) = (f.line ≡ line) × (f.offset ≡ offset) × InRow line (offset + length f.bytes.now + 1) fs

-- The fields of a line are those of its text, each in its place.
pub record FieldsTold (fs : List Field) (text : List ℕ) (line offset : ℕ) : Type 0 where
  pub bytes_are : map (λ f. f.bytes.now) fs ≡ fields text
  pub places : InRow line offset fs

pub data Sort : Type 0 where
  head : Sort
  number : Sort
  position : Sort

abbrev pub sort_of : Line → Sort
sort_of (line.Head w n) = head
sort_of (line.Number f) = number
sort_of (line.Position p) = position

-- The next line of this sort.
abbrev pub ReadLine : Sort → List Form → List ℕ → ℕ → ℕ → ℕ → ℕ → Result Line Fault → Type 0
ReadLine sort forms sheet at lines at' lines' (Ok l) =
    (sort_of l ≡ sort) × Passed forms sheet at lines at' lines' × FieldsTold (line_fields l) (before 10 (drop at sheet)) (lines + 1) at
ReadLine sort forms sheet at lines at' lines' (Err e) = Stayed forms sheet at lines at' lines' e

abbrev pub number_forms : List Form
number_forms = form.Number ∷ []
