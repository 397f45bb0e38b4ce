use Rattle.std.proofs.Common.{◌≡◌, ◌+◌, unwrap_or, ap, ◌∙◌, ap₂, arith, rules}
use Rattle.book.proofs.MarginAnswers.{one_margin}
use Rattle.speed.proofs.Sums.{more}
use Rattle.speed.proofs.asked.minimums.Goals as goal

pub loop-preserved : goal.loop-preserved
loop-preserved c = λ n at m.
    let reply = c.minimum-centavos.result in
    let same = one_margin _ _ _ _ _ c.minimum-centavos.ensures m in
    let price : c.from.result ≡ unwrap_or at 0 = c.from.ensures ∙ c.unwrap_or.ensures ∙ ap (λ o. unwrap_or o 0) same.1 in
    let both : reply.0 + c.from.result ≡ n + unwrap_or at 0 = ap₂ (λ a b. a + b) same.0 price in
    more c.loop.sum c.loop.counter (n + unwrap_or at 0) c.plus.result _ (c.loop.invariant n at m) (omega (arith, both, c.plus.ensures)) c.plus-sum.ensures

pub returns : goal.returns
returns c = λ n at m. let e : c.loop.counter ≡ c.args.times = search rules in rw (← e) (c.loop.invariant n at m)
