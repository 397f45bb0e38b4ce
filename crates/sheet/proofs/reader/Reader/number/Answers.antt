use Rattle.std.proofs.Common.{[], sym, refl}
use Rattle.sheet.proofs.ReadSteps.{none_read, passed, stayed, unended, handed_on}
use Rattle.sheet.proofs.reader.Reader.number.Goals as goal

pub returns-in_err-number-clause-told : goal.returns-in_err-number-clause-told
returns-in_err-number-clause-told c =
    handed_on _ _ _ _ _ _ c.in_err-number.field-0.0 c.from_residual.ensures.1 (stayed c.next_line-line.ensures [] (none_read _) c.in_err-number.ensures)

pub returns-in_err-self-clause-told : goal.returns-in_err-self-clause-told
returns-in_err-self-clause-told c =
    handed_on _ _ _ _ _ _ c.in_err-self.field-0.0 c.from_residual-in_err-self.ensures.1 (unended c.next_line-line.ensures _ c.in_ok-number.ensures (sym c.in_err-self.ensures))

pub returns-clause-told : goal.returns-clause-told
returns-clause-told c =
    let p = passed c.next_line-line.ensures _ c.in_ok-number.ensures (sym c.in_ok-self.ensures) in
    (refl, p.0, p.1)
