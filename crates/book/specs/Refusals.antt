-- Every cause for turning a call away, with its number and what is returned beside it.
use Rattle.std.specs.Prelude.{ℕ, List, [], ◌∷◌}
use Rattle.kinds.specs.ContractRefusals.{contract_refusal_number}
use Rattle.sheet.specs.Faults.{fault_number, fault_values}
use Rattle.book.specs.declared.refusal.Refusal.{Refusal}
use Rattle.book.specs.declared.refusal.Refusal.TheVariants.{MarketNumber, Product, Places, Contract, Quantity, DoesNotFit, Contracts, AllPlacesTaken, HeldDoesNotFit, Scenarios, TableLength, ScenarioValue, NoPosition, AboveCeiling, Sheet, Buffer}

abbrev pub refusal_number : Refusal → ℕ
refusal_number (MarketNumber n) = 1
refusal_number Product = 2
refusal_number Places = 3
refusal_number (Contract r) = contract_refusal_number r
refusal_number Quantity = 6
refusal_number DoesNotFit = 7
refusal_number Contracts = 8
refusal_number AllPlacesTaken = 9
refusal_number (HeldDoesNotFit i) = 10
refusal_number Scenarios = 11
refusal_number TableLength = 12
refusal_number (ScenarioValue i) = 13
refusal_number NoPosition = 14
refusal_number AboveCeiling = 15
refusal_number (Sheet f) = fault_number f
refusal_number (Buffer n) = 17

abbrev pub refusal_values : Refusal → List ℕ
refusal_values (MarketNumber n) = n ∷ []
refusal_values Product = []
refusal_values Places = []
refusal_values (Contract r) = []
refusal_values Quantity = []
refusal_values DoesNotFit = []
refusal_values Contracts = []
refusal_values AllPlacesTaken = []
refusal_values (HeldDoesNotFit i) = i ∷ []
refusal_values Scenarios = []
refusal_values TableLength = []
refusal_values (ScenarioValue i) = i ∷ []
refusal_values NoPosition = []
refusal_values AboveCeiling = []
refusal_values (Sheet f) = fault_values f
refusal_values (Buffer n) = n ∷ []
