use Rattle.std.proofs.Common.{◌≡◌, ap, ◌∙◌, arith, w32, to_z, of_z, rules}
use Rattle.kinds.specs.ListedOptions.{listed}
use Rattle.book.specs.Tallies.{tally_of}
use Rattle.book.specs.Trades.{traded}
use Rattle.speed.specs.Examples.{option_at, quantity_at, example}
use Rattle.speed.proofs.ExampleTrades.{next}
use Rattle.speed.proofs.example.opened.Goals as goal

pub loop-i-preserved : goal.loop-i-preserved
loop-i-preserved c =
    let i = c.loop-i.i in
    let quantity = to_z w32 (of_z w32 c.quantity.result) in
    let old = tally_of c.loop-i.book in
    let done = c.in_ok-trade.ensures in
    let q : quantity ≡ quantity_at i = search rules in
    let traded_now : (tally_of c.trade.new.self).positions ≡ traded listed c.option.result quantity old.positions = ap (λ t. t.positions) done.1 in
    let same : traded listed c.option.result quantity old.positions ≡ traded listed (option_at i) (quantity_at i) (example i) =
    ap (λ o. traded listed o quantity old.positions) c.option.ensures.is ∙ ap (λ z. traded listed (option_at i) z old.positions) q ∙ ap (λ ps. traded listed (option_at i) (quantity_at i) ps) c.loop-i.invariant.0 in
    (traded_now ∙ same ∙ next i (omega arith), ap (λ t. t.market) done.1 ∙ c.loop-i.invariant.1)
