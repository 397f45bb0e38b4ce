-- Stress scenarios: a table of values, scenario after scenario, one for each position in book order.
use Rattle.std.specs.Prelude.{◌≡◌, ℕ, zero, suc, ◌*◌, max, cond, not, List, [], ◌∷◌, length, take, drop, ℤ, pos, ◌+ℤ◌, ◌*ℤ◌, neg_ℤ, Some, None, Ok, Err, Option, Result, ◌==◌, nat_lt}
use Rattle.std.specs.List.{position}
use Rattle.std.specs.Option.{option_map}
use Rattle.book.specs.declared.position.Position.{Position}
use Rattle.book.specs.declared.refusal.Refusal.{Refusal}
use Rattle.book.specs.declared.refusal.Refusal.TheVariants.{Scenarios, TableLength, ScenarioValue}
use Rattle.book.specs.Losses.{loss}
use Rattle.book.specs.Markets.{outside, variation_of, price_unit, value_unit}
use Rattle.kinds.specs.Kinds.{Meaning}
use Rattle.book.specs.Prices.{centavos, Least, CoversBoth}
use Rattle.book.specs.Tallies.{Tally, Kept}

-- What the positions are worth in a scenario: quantity × value, summed.
abbrev pub row_value : {C : Type 0} → List (Position C) → List ℕ → ℤ
row_value [] xs = pos 0
row_value (p ∷ ps) [] = pos 0
row_value (p ∷ ps) (x ∷ xs) = (p.net *ℤ pos x) +ℤ row_value ps xs

-- A scenario's loss in exact units.
abbrev pub scenario_loss : {C : Type 0} → ℕ → List (Position C) → List ℕ → ℤ
scenario_loss unit ps row = neg_ℤ (row_value ps row) *ℤ pos unit

abbrev pub scenario_losses : {C : Type 0} → ℕ → List (Position C) → ℕ → List ℕ → List ℤ
scenario_losses unit ps zero table = []
scenario_losses unit ps (suc n) table = scenario_loss unit ps (take (length ps) table) ∷ scenario_losses unit ps n (drop (length ps) table)

-- The place of the first number above a limit.
abbrev pub first_above : ℕ → List ℕ → Option ℕ
first_above limit xs = position (nat_lt limit) xs

-- The required question tries the scenarios, the table's length, and its values.
abbrev pub required_refusal : {C : Type 0} → Tally C → ℕ → List ℕ → Option Refusal
required_refusal t scenarios table =
    cond (outside scenarios 1 405) (Some Scenarios)
    (cond (not (length table == scenarios * length t.positions)) (Some TableLength)
    (option_map (λ i. ScenarioValue i) (first_above (100 * t.market.ceiling) table)))

-- The greatest of m and of these losses in centavos.
abbrev pub greatest : ℕ → List ℤ → ℕ
greatest m [] = m
greatest m (z ∷ zs) = greatest (max m (centavos z)) zs

-- The required question: the least number of centavos that covers the loss at every whole price and in every scenario.
abbrev pub RequiredTold : {C : Type 0} → Meaning C → Tally C → ℕ → List ℕ → Result ℕ Refusal → Type 0
RequiredTold K t scenarios table (Ok n) =
    (required_refusal t scenarios table ≡ None)
    × (Kept K t → Least (CoversBoth (loss K (variation_of t.market) (price_unit t.market) t.positions) (scenario_losses (value_unit t.market) t.positions scenarios table)) n)
RequiredTold K t scenarios table (Err e) = required_refusal t scenarios table ≡ Some e
