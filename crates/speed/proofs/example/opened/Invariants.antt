use Rattle.std.proofs.Common.{◌≡◌}
use Rattle.book.specs.Tallies.{tally_of}
use Rattle.speed.specs.Examples.{market, example}
use Rattle.speed.proofs.example.opened.Given as goal

abbrev pub invariant-loop-i : goal.invariant-loop-i
invariant-loop-i l = ((tally_of l.book).positions ≡ example l.i) × ((tally_of l.book).market ≡ market)
