-- Listed options as lines.
use Rattle.std.specs.Prelude.{ℕ, cond, List, [], ◌∷◌, Some, None, decimal, Option, ◌==◌}
use Rattle.kinds.specs.declared.side.Side.{Side}
use Rattle.kinds.specs.declared.side.Side.TheVariants.{Call, Put}
use Rattle.kinds.specs.declared.listed.Listed.{Listed}
use Rattle.kinds.specs.declared.contract_refusal.ContractRefusal.TheVariants.{Strike}
use Rattle.kinds.specs.Sides.{strike_right}
use Rattle.sheet.specs.Decimals.{number_of}
use Rattle.sheet.specs.StoredKinds.{Storing}

abbrev pub letter : Side → ℕ
letter Call = 67
letter Put = 80

abbrev pub side_of : List ℕ → Option Side
side_of [] = None
side_of (b ∷ []) = cond (b == 67) (Some Call) (cond (b == 80) (Some Put) None)
side_of (b ∷ c ∷ bs) = None

abbrev pub listed_of : Option Side → Option ℕ → Option (List ℕ) → Option Listed
listed_of None k l = None
listed_of (Some s) None l = None
listed_of (Some s) (Some k) None = Some record { side = s; strike = k }
listed_of (Some s) (Some k) (Some l) = None

abbrev pub listed_stored : Storing Listed
listed_stored = record {
  limiter_form = None;
  read = λ t. listed_of (side_of t.side) (number_of 8 t.strike) t.limiter;
  written = λ c. record { side = letter c.side ∷ []; strike = decimal c.strike; limiter = None };
  refusal = λ c. cond (strike_right c.strike) None (Some Strike);
}
