use Rattle.std.proofs.Common.{[]}
use Rattle.sheet.specs.LineTexts.{line_text}
use Rattle.book.specs.SheetTexts.{position_line}
use Rattle.book.specs.Tallies.{tally_of}
use Rattle.book.proofs.JoinedLines.{Put, head_text}
use Rattle.book.proofs.book.Book.write.Given as goal

abbrev pub invariant-loop-line : goal.invariant-loop-line
invariant-loop-line g l = Put line_text l.line-items [] l.fn.out l.line-index l.at l.out

abbrev pub invariant-loop-position : goal.invariant-loop-position
invariant-loop-position g l = Put (position_line g.K.Stored.stored) l.position-items (head_text g.K.Stored.stored (tally_of l.self)) l.fn.out l.position-index l.at l.out
