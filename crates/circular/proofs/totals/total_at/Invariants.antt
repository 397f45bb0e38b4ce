use Rattle.std.proofs.Common.{◌≡◌, ◌*◌, ◌^◌, ◌≤◌, drop, ◌+ℤ◌, nat_abs}
use Rattle.circular.specs.Totals.{total}
use Rattle.circular.proofs.totals.total_at.Given as goal

abbrev pub invariant-loop-holding : goal.invariant-loop-holding
invariant-loop-holding l =
    (l.sum +ℤ total (drop l.holding-index l.portfolio.holdings.now) l.price ≡ total l.portfolio.holdings.now l.price) × (nat_abs l.sum ≤ l.holding-index * 2 ^ 69)
