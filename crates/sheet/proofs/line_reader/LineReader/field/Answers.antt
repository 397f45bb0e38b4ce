use Rattle.std.proofs.Common.{sym, refl}
use Rattle.sheet.proofs.ReadSteps.{refused, read}
use Rattle.sheet.proofs.line_reader.LineReader.field.Goals as goal

pub returns-then-not-takes : goal.returns-then-not-takes
returns-then-not-takes c =
    refused c.in-Some.text c.cut.result.0.now c.cut.result.1 c.cut.ensures.first c.cut.ensures.rest c.args.form c.args.self.now c.in-Some.is (sym c.if-not-takes.ensures)

pub returns : goal.returns
returns c =
    read c.in-Some.text c.cut.result.0.now c.cut.result.1 c.cut.ensures.first c.cut.ensures.rest c.args.form c.args.self.now _ _ c.in-Some.is (sym c.if-not-takes.ensures) refl refl refl c.cut.ensures.place refl refl refl refl
