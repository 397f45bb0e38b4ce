use Rattle.std.proofs.Common.{◌≡◌, ◌+◌, ◌*◌, ◌≤◌, ◌+ℤ◌, nat_abs}
use Rattle.book.specs.Losses.{gross}
use Rattle.book.specs.Scenarios.{row_value}
use Rattle.book.proofs.held.Held.row_value.Given as goal

-- What was summed up, and what is left of the positions and the row.
abbrev pub invariant-loop-position : goal.invariant-loop-position
invariant-loop-position g l =
    let ps = l.position-iterator.a.rest.now in
    (l.sum +ℤ row_value ps l.position-iterator.b.rest.now ≡ row_value l.self.positions.now l.row)
    × (nat_abs l.sum + gross ps * 4294967295 ≤ 10000 * 4294967295)
