-- Reading a line, one field after another: what each step tells of the fields that are left.
use Rattle.std.specs.Prelude.{◌≡◌, ℕ, ◌+◌, ◌≤◌, Bool, true, false, List, [], ◌∷◌, ◌++◌, map, length, drop, IfSome, Some, None, Ok, Err, Option, Result}
use Rattle.std.specs.Option.{option_map, option_to_list}
use Rattle.sheet.specs.declared.text.Text.{Text}
use Rattle.sheet.specs.declared.field.Field.{Field}
use Rattle.sheet.specs.declared.form.Form.{Form}
use Rattle.sheet.specs.declared.line_reader.LineReader.{LineReader}
use Rattle.sheet.specs.declared.fault.Fault.{Fault}
use Rattle.sheet.specs.declared.fault.Fault.TheVariants as fault
use Rattle.sheet.specs.Cuts.{before, after, fields, fields_left}
use Rattle.sheet.specs.Forms.{is_form, of_forms}
use Rattle.sheet.specs.ReadLines.{FieldsTold}

-- The fields that are left.
abbrev pub left : Option Text → List (List ℕ)
left rest = fields_left (option_map (λ t. t.bytes.now) rest)

-- What is left of the line is these fields, each in its place.
abbrev pub LeftTold : Option Text → ℕ → List Field → Type 0
LeftTold None line fs = fs ≡ []
LeftTold (Some t) line fs = FieldsTold fs t.bytes.now line t.offset

-- The reader of a line stands before its first field. The line begins at the offset `at` after `lines` lines.
pub record Begun (sheet : List ℕ) (at lines : ℕ) (r : LineReader) : Type 0 where
  pub left_is : left r.rest ≡ fields (before 10 (drop at sheet))
  pub told : (fs : List Field) → LeftTold r.rest r.line fs → FieldsTold fs (before 10 (drop at sheet)) (lines + 1) at
  pub line_is : r.line ≡ lines + 1
  pub field_is : r.field ≡ 1
  pub next_is : option_map (λ n. drop n sheet) r.next ≡ after 10 (drop at sheet)
  pub place : IfSome r.next (λ n. (n ≡ at + length (before 10 (drop at sheet)) + 1) × (n ≤ length sheet))

-- These fields were read: they have these forms, and stand before what is left now.
pub record Read (forms : List Form) (fs : List Field) (old new : LineReader) : Type 0 where
  pub formed : of_forms forms (map (λ f. f.bytes.now) fs) ≡ true
  pub cut : left old.rest ≡ map (λ f. f.bytes.now) fs ++ left new.rest
  pub told : (more : List Field) → LeftTold new.rest new.line more → LeftTold old.rest old.line (fs ++ more)
  pub line_is : new.line ≡ old.line
  pub field_is : new.field ≡ old.field + length forms
  pub next_is : new.next ≡ old.next

abbrev pub first_formed : Form → List (List ℕ) → Bool
first_formed form [] = false
first_formed form (f ∷ fs) = is_form form f

-- No field is left, or the next has another form. The reader stays before it.
pub record Refused (form : Form) (old new : LineReader) (e : Fault) : Type 0 where
  pub formed : first_formed form (left old.rest) ≡ false
  pub fault_is : e ≡ fault.Field old.line old.field
  pub stays : new ≡ old

abbrev pub FieldRead : Form → LineReader → LineReader → Result Field Fault → Type 0
FieldRead form old new (Ok f) = Read (form ∷ []) (f ∷ []) old new
FieldRead form old new (Err e) = Refused form old new e

abbrev pub OptionalRead : Option Form → LineReader → LineReader → Result (Option Field) Fault → Type 0
OptionalRead form old new (Ok f) = Read (option_to_list form) (option_to_list f) old new
OptionalRead None old new (Err e) = ⊥
OptionalRead (Some form) old new (Err e) = Refused form old new e

-- The offset behind the line, where all its fields were read and it has its line feed.
abbrev pub end_of : Option Text → Option ℕ → Fault → Result ℕ Fault
end_of None (Some n) e = Ok n
end_of None None e = Err e
end_of (Some t) next e = Err e

abbrev pub line_end : LineReader → Result ℕ Fault
line_end r = end_of r.rest r.next (fault.Field r.line r.field)
