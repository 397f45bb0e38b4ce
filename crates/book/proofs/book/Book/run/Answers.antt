use Rattle.std.proofs.Common.{length, take, refl, ◌∙◌, arith}
use Rattle.std.proofs.lemmas.List.{drop-set-lt}
use Rattle.std.proofs.lemmas.Grind.{common_steps}
use Rattle.book.specs.Runs.{Run, none}
use Rattle.book.specs.Tallies.{tally_of}
use Rattle.book.proofs.LawfulRuns.{valid, lawful}
use Rattle.book.proofs.RunSteps.{run_next}
use Rattle.book.proofs.book.Book.run.Goals as goal

pub loop-i-init : goal.loop-i-init
loop-i-init g c = (omega arith, none (tally_of c.args.self.now), refl)

pub loop-i-preserved : goal.loop-i-preserved
loop-i-preserved g c =
    let cs = c.args.calls.now in
    let rs = c.loop-i.replies in
    let i = c.loop-i.i in (
      omega (arith, c.loop-i-test.true),
      run_next g.K.Kind.means _ cs rs i c.index-calls-i.result _ c.step.result _ c.loop-i-test.true (omega arith) c.index-calls-i.is c.loop-i.invariant.1 c.step.ensures,
      drop-set-lt (length cs) rs i c.step.result c.loop-i-test.true ∙ c.loop-i.invariant.2,
    )

pub returns-clause-law : goal.returns-clause-law
returns-clause-law g c =
    let K = g.K.Kind.means in
    let cs = c.args.calls.now in
    let rs = c.loop-i.replies in
    let run : Run K (tally_of c.args.self.now) cs (take (length cs) rs) (tally_of c.loop-i.self) = grind (arith, common_steps) in
    lawful K g.met.K.Kind.lawful _ _ cs _ (valid c.args.self.now).kept run (valid c.loop-i.self)
