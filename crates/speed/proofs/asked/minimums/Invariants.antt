use Rattle.book.specs.Tallies.{tally_of}
use Rattle.speed.specs.Checksums.{SumsMinimums}
use Rattle.speed.proofs.asked.minimums.Given as goal

abbrev pub invariant-loop : goal.invariant-loop
invariant-loop l = SumsMinimums (tally_of l.book) l.counter l.sum
