use Rattle.book.specs.Tallies.{tally_of}
use Rattle.speed.specs.Checksums.{SumsRequireds}
use Rattle.speed.proofs.asked.requireds.Given as goal

abbrev pub invariant-loop : goal.invariant-loop
invariant-loop l = SumsRequireds (tally_of l.book) l.scenarios l.values l.counter l.sum
