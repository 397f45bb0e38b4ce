use Rattle.std.proofs.Common.{◌≡◌, ℕ, ◌-◌, ◌*◌, ◌≤◌, length, get_or}
use Rattle.book.specs.Prices.{centavos}
use Rattle.book.specs.Markets.{value_unit}
use Rattle.book.specs.Scenarios.{scenario_losses, greatest}
use Rattle.book.proofs.held.Held.stressed.Given as goal

abbrev pub invariant-loop : goal.invariant-loop
invariant-loop g l =
    (length l.rest ≡ (l.scenarios - l.counter) * length l.self.positions.now)
    × ((k : ℕ) → get_or l.rest k 0 ≤ 100 * l.self.market.numbers.ceiling)
    × (greatest (centavos l.most) (scenario_losses (value_unit l.self.market.numbers) l.self.positions.now (l.scenarios - l.counter) l.rest) ≡ greatest 0 (scenario_losses (value_unit l.self.market.numbers) l.self.positions.now l.scenarios l.table))
