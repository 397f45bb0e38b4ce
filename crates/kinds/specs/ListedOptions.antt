-- Listed options as a kind of contract.
use Rattle.std.specs.Prelude.{ℕ, min, cond, ◌&&◌, [], ◌∷◌, Ok, Err, Result, ◌==◌}
use Rattle.kinds.specs.declared.side.Side.{Side}
use Rattle.kinds.specs.declared.listed.Listed.{Listed}
use Rattle.kinds.specs.declared.contract_refusal.ContractRefusal.{ContractRefusal}
use Rattle.kinds.specs.declared.contract_refusal.ContractRefusal.TheVariants.{Strike}
use Rattle.kinds.specs.Kinds.{Meaning}
use Rattle.kinds.specs.Sides.{pays, moved, side_fits, strike_right, side_same}

abbrev pub listed : Meaning Listed
listed = record {
  payment = λ c x. pays c.side c.strike x;
  payment_under = λ c v x. min (pays c.side c.strike x) v;
  corners = λ c. c.strike ∷ [];
  corners_under = λ c v. c.strike ∷ moved c.side c.strike v ∷ [];
  fits = λ c v u. strike_right c.strike && side_fits c.side c.strike v u;
  same = λ c d. side_same c.side d.side && (c.strike == d.strike);
}

-- The contract that is made, or why it is not.
abbrev pub listed_made : Side → ℕ → Result Listed ContractRefusal
listed_made side strike = cond (strike_right strike) (Ok record { side = side; strike = strike }) (Err Strike)
