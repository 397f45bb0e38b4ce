-- The minimum and the required margin in the steps of BM&F circular 134/2006-DG, for listed books. v is the variation.
use Rattle.std.specs.Prelude.{ℕ, zero, suc, List, [], ◌∷◌, ◌++◌, map, length, take, drop, ℤ, pos, negsuc, ◌+ℤ◌, ◌*ℤ◌, neg_ℤ, fold}
use Rattle.std.specs.Int.{int_min}
use Rattle.kinds.specs.declared.listed.Listed.{Listed}
use Rattle.kinds.specs.Sides.{pays, moved}
use Rattle.book.specs.declared.position.Position.{Position}
use Rattle.book.specs.Scenarios.{row_value}

-- Step 1. Each sold position is accompanied by as many bought options at the strike moved by the variation: the protected portfolio.
abbrev pub protection : ℕ → Listed → ℤ → List (Position Listed)
protection v c (pos n) = []
protection v c (negsuc n) = record { contract = record { side = c.side; strike = moved c.side c.strike v }; net = pos (suc n) } ∷ []

abbrev pub protected_portfolio : ℕ → List (Position Listed) → List (Position Listed)
protected_portfolio v [] = []
protected_portfolio v (p ∷ ps) = p ∷ (protection v p.contract p.net ++ protected_portfolio v ps)

-- Its value at a price, the plain sum over its options.
abbrev pub portfolio_value : List (Position Listed) → ℕ → ℤ
portfolio_value [] x = pos 0
portfolio_value (p ∷ ps) x = (p.net *ℤ pos (pays p.contract.side p.contract.strike x)) +ℤ portfolio_value ps x

-- Step 2. The minimum margin: minus the least of zero and its values at its strikes. A hundredth of a point has unit exact units.
abbrev pub strikes : List (Position Listed) → List ℕ
strikes ps = map (λ p. p.contract.strike) ps

abbrev pub circular_minimum : ℕ → List (Position Listed) → ℤ
circular_minimum unit ps = neg_ℤ (fold int_min (pos 0) (map (λ x. portfolio_value ps x *ℤ pos unit) (strikes ps)))

-- Step 3. What the positions are worth in each scenario, in exact units.
abbrev pub scenario_values : ℕ → List (Position Listed) → ℕ → List ℕ → List ℤ
scenario_values unit ps zero table = []
scenario_values unit ps (suc n) table = (row_value ps (take (length ps) table) *ℤ pos unit) ∷ scenario_values unit ps n (drop (length ps) table)

-- Step 4. The required margin: minus the least of zero, minus the minimum margin, and the values of the scenarios.
abbrev pub circular_required : ℤ → List ℤ → ℤ
circular_required minimum values = neg_ℤ (fold int_min (int_min (neg_ℤ minimum) (pos 0)) values)
