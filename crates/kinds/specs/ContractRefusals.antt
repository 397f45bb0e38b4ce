-- Why a contract is not made, with the number of each cause.
use Rattle.std.specs.Prelude.{ℕ}
use Rattle.kinds.specs.declared.contract_refusal.ContractRefusal.{ContractRefusal}
use Rattle.kinds.specs.declared.contract_refusal.ContractRefusal.TheVariants.{Strike, Limiter}

abbrev pub contract_refusal_number : ContractRefusal → ℕ
contract_refusal_number Strike = 4
contract_refusal_number Limiter = 5
