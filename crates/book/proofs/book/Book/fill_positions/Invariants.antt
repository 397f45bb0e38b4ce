use Rattle.std.proofs.Common.{◌≡◌}
use Rattle.book.specs.SheetReading.{unread, positions_told}
use Rattle.book.specs.Tallies.{tally_of}
use Rattle.book.proofs.PositionFaults.{Passed}
use Rattle.book.proofs.book.Book.fill_positions.Given as goal

abbrev pub invariant-loop : goal.invariant-loop
invariant-loop g l = record {
  passed : Passed g.K.Kind.means g.K.Stored.stored l.initial.self.market.numbers l.count l.initial.reader l.counter l.reader;
  tally : tally_of l.self ≡ record { places = l.initial.self.places; market = l.initial.self.market.numbers; positions = positions_told g.K.Stored.stored l.counter (unread l.initial.reader) };
}
