use Rattle.std.proofs.Common.{◌≡◌, ◌+◌, drop}
use Rattle.book.specs.Losses.{gross}
use Rattle.book.proofs.held.Held.contracts.Given as goal

abbrev pub invariant-loop-position : goal.invariant-loop-position
invariant-loop-position g l = l.sum + gross (drop l.position-index l.self.positions.now) ≡ gross l.self.positions.now
