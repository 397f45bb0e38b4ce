use Rattle.std.proofs.Common.{◌≡◌, ◌≤◌, vec_items, vec_capacity}
use Rattle.book.specs.Losses.{gross}
use Rattle.book.specs.SheetReading.{unread, positions_told, contracts_of}
use Rattle.book.proofs.PositionFaults.{Passed}
use Rattle.book.proofs.check_sheet.check_positions.Given as goal

abbrev pub invariant-loop : goal.invariant-loop
invariant-loop g l = record {
  passed : Passed g.K.Kind.means g.K.Stored.stored l.market.numbers l.count l.initial.reader l.counter l.reader;
  contracts : l.contracts ≡ gross (positions_told g.K.Stored.stored l.counter (unread l.initial.reader));
  few : l.contracts ≤ 10000;
  seen : vec_items l.seen ≡ contracts_of (positions_told g.K.Stored.stored l.counter (unread l.initial.reader));
  room : vec_capacity l.seen ≡ vec_capacity l.initial.seen;
}
