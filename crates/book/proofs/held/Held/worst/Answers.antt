use Rattle.std.proofs.Common.{◌≡◌, ◌∷◌, take, subst, arith, take_all}
use Rattle.book.specs.Losses.{lost, corners}
use Rattle.book.specs.Prices.{Leads}
use Rattle.book.proofs.BookLosses.{worst}
use Rattle.book.proofs.MarketFacts.{ceiling_low}
use Rattle.book.proofs.ValueBounds.{item_fits}
use Rattle.book.proofs.SearchSteps.{search_more}
use Rattle.book.proofs.held.Held.worst.Goals as goal

pub loop-position-preserved : goal.loop-position-preserved
loop-position-preserved g c =
    let K = g.K.Kind.means in
    let held = c.args.self.now in
    let v = held.variation in
    let u = held.market.numbers.ceiling in
    let ps = held.positions.now in
    let i = c.loop-position.position-index in
    let p = c.position-item.result in
    let f = item_fits K v u ps i p c.loop-position-test.true c.position-item.is held.fitting in
    let t = c.corners.ensures u f (omega arith) (ceiling_low held.market) in (
      omega (arith, c.loop-position-test.true),
      c.worst_corner-found.ensures.finds,
      search_more K v ps i p c.corners.result c.loop-position.found.price c.worst_corner-found.result.price c.loop-position-test.true c.position-item.is t c.loop-position.invariant.2 c.worst_corner-found.ensures.leads,
    )

pub returns : goal.returns
returns g c =
    let K = g.K.Kind.means in
    let held = c.args.self.now in
    let v = held.variation in
    let ps = held.positions.now in
    let all : take c.loop-position.position-index ps ≡ ps = take_all _ _ c.loop-position-test.false in
    let leads = subst (λ qs. Leads (lost K v ps) c.loop-position.found.price (0 ∷ corners K v qs)) all c.loop-position.invariant.2 in
    record {
      finds = c.loop-position.invariant.1;
      worst = worst K g.met.K.Kind.lawful v held.market.numbers.ceiling ps held.fitting c.loop-position.found.price leads.each;
    }
