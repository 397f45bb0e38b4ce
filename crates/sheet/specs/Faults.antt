-- Every fault of a sheet with its number, its line, its layer and what is returned beside it.
use Rattle.std.specs.Prelude.{ℕ, List, [], ◌∷◌, Some, None, Option}
use Rattle.kinds.specs.ContractRefusals.{contract_refusal_number}
use Rattle.sheet.specs.declared.fault.Layer as layer
use Rattle.sheet.specs.declared.fault.LineCause.{LineCause}
use Rattle.sheet.specs.declared.fault.LineCause.TheVariants.{MarketNumber, Contract, Quantity}
use Rattle.sheet.specs.declared.fault.BookCause.{BookCause}
use Rattle.sheet.specs.declared.fault.BookCause.TheVariants.{Product, DoesNotFit, Contracts, Places, NamedTwice, TooLong}
use Rattle.sheet.specs.declared.fault.Fault.{Fault}
use Rattle.sheet.specs.declared.fault.Fault.TheVariants as fault

abbrev pub line_cause_number : LineCause → ℕ
line_cause_number (MarketNumber n) = 1
line_cause_number (Contract r) = contract_refusal_number r
line_cause_number Quantity = 6

abbrev pub book_cause_number : BookCause → ℕ
book_cause_number Product = 2
book_cause_number DoesNotFit = 7
book_cause_number Contracts = 8
book_cause_number Places = 9
book_cause_number NamedTwice = 18
book_cause_number TooLong = 19

abbrev pub fault_number : Fault → ℕ
fault_number (fault.Field line field) = 16
fault_number (fault.Line line cause) = line_cause_number cause
fault_number (fault.Book line cause) = book_cause_number cause

abbrev pub fault_line : Fault → ℕ
fault_line (fault.Field line field) = line
fault_line (fault.Line line cause) = line
fault_line (fault.Book line cause) = line

abbrev pub fault_field_of : Fault → Option ℕ
fault_field_of (fault.Field line field) = Some field
fault_field_of (fault.Line line cause) = None
fault_field_of (fault.Book line cause) = None

abbrev pub fault_layer : Fault → layer.Layer
fault_layer (fault.Field line field) = layer.TheVariants.Field
fault_layer (fault.Line line cause) = layer.TheVariants.Line
fault_layer (fault.Book line cause) = layer.TheVariants.Book

-- What is returned beside the number: the line, and then the field of a malformed line or the place of a market number.
abbrev pub cause_values : LineCause → List ℕ
cause_values (MarketNumber n) = n ∷ []
cause_values (Contract r) = []
cause_values Quantity = []

abbrev pub fault_values : Fault → List ℕ
fault_values (fault.Field line field) = line ∷ field ∷ []
fault_values (fault.Line line cause) = line ∷ cause_values cause
fault_values (fault.Book line cause) = line ∷ []
