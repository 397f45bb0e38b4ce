use Rattle.std.proofs.Common.{◌≤◌, ◌∷◌, length, take}
use Rattle.book.specs.Prices.{Leads}
use Rattle.book.specs.Losses.{lost, corners, Finds}
use Rattle.book.proofs.held.Held.worst.Given as goal

abbrev pub invariant-loop-position : goal.invariant-loop-position
invariant-loop-position g l =
    let K = g.K.Kind.means in
    let v = l.self.variation in
    let ps = l.self.positions.now in
    (l.position-index ≤ length ps)
    × Finds K v l.self.market.numbers.ceiling ps l.found
    × Leads (lost K v ps) l.found.price (0 ∷ corners K v (take l.position-index ps))
