use Rattle.std.proofs.Common.{sym, ◌∙◌, subst, arith}
use Rattle.book.specs.SheetReading.{Checked}
use Rattle.book.proofs.ReadingLines.{goes_on, check_stops}
use Rattle.book.proofs.SheetHeads.{start, head_read}
use Rattle.book.proofs.check_sheet.check_lines.Goals as goal

pub returns-in_err-market-clause-checked : goal.returns-in_err-market-clause-checked
returns-in_err-market-clause-checked g c =
    check_stops _ c.in_err-market.ensures (start g.K.Kind.means g.K.Stored.stored c.args.places c.args.reader.now c.requires.start) c.from_residual.ensures.1

pub returns-in_err-count-clause-checked : goal.returns-in_err-count-clause-checked
returns-in_err-count-clause-checked g c =
    let g6 = goes_on c.in_ok-market.ensures (start g.K.Kind.means g.K.Stored.stored c.args.places c.args.reader.now c.requires.start) in
    check_stops _ c.in_err-count.ensures g6 c.from_residual-in_err-count.ensures.1

pub check_positions-requires : goal.check_positions-requires
check_positions-requires g c = omega (arith, c.in_ok-count.ensures.told.1.tells.1, c.requires.room)

pub returns-clause-checked : goal.returns-clause-checked
returns-clause-checked g c =
    let head = head_read g.K.Kind.means g.K.Stored.stored c.args.places _ c.requires.start c.in_ok-market.ensures c.in_ok-count.ensures in
    let rest = c.check_positions.ensures.checked in
    record { same = rest.same ∙ head.same; told = subst (λ f. Checked f c.check_positions.result) (sym head.left) rest.told }
