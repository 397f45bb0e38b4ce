use Rattle.std.proofs.Common.{◌≡◌, ◌*◌, ◌≤◌, length, take, nat_abs}
use Rattle.book.specs.Losses.{value, gross}
use Rattle.book.proofs.held.Held.value.Given as goal

abbrev pub invariant-loop-position : goal.invariant-loop-position
invariant-loop-position g l =
    let seen = take l.position-index l.self.positions.now in
    (l.position-index ≤ length l.self.positions.now)
    × (nat_abs l.sum ≤ gross seen * 4294967295)
    × (l.sum ≡ value g.K.Kind.means l.self.variation seen l.price)
