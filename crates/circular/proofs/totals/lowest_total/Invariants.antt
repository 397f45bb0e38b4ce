use Rattle.std.proofs.Common.{◌≡◌, take}
use Rattle.circular.specs.Totals.{lowest}
use Rattle.circular.proofs.totals.lowest_total.Given as goal

abbrev pub invariant-loop-price : goal.invariant-loop-price
invariant-loop-price l = l.low ≡ lowest l.portfolio.holdings.now (take l.price-index l.prices)
