use Rattle.std.proofs.Common.{◌≡◌, ap, ◌∙◌, ◌%◌, ◌^◌, rules}
use Rattle.book.specs.Tallies.{tally_of}
use Rattle.kinds.specs.ListedOptions.{listed}
use Rattle.speed.proofs.Sums.{more, replied}
use Rattle.speed.proofs.asked.requireds.Goals as goal

pub loop-preserved : goal.loop-preserved
loop-preserved c = λ n h.
    let e = c.unwrap_or.ensures ∙ replied listed (tally_of c.args.book.now) c.args.scenarios c.args.values.now c.required.result n c.required.ensures.kept h c.required.ensures.told in
    more c.loop.sum c.loop.counter n c.unwrap_or.result _ (c.loop.invariant n h) (ap (λ x. x % 2 ^ 64) e) c.plus-sum.ensures

pub returns : goal.returns
returns c = λ n h. let e : c.loop.counter ≡ c.args.times = search rules in rw (← e) (c.loop.invariant n h)
