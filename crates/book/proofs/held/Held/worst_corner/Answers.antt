use Rattle.std.proofs.Common.{[], ◌∷◌, sym, ap, subst}
use Rattle.kinds.specs.CornerPrices.{prices}
use Rattle.book.specs.Losses.{lost}
use Rattle.book.specs.Prices.{Leads}
use Rattle.book.proofs.SearchSteps.{leads_on}
use Rattle.book.proofs.held.Held.worst_corner.Goals as goal

pub returns-in-Two : goal.returns-in-Two
returns-in-Two g c =
    let e = ap prices c.in-Two.is in
    let loss = lost g.K.Kind.means c.args.self.now.variation c.args.self.now.positions.now in
    let q = c.worse-in-Two.ensures.leads in
    let r = c.worse-in-Two-2.ensures.leads in
    let all = leads_on loss c.worse-in-Two.result.price c.worse-in-Two-2.result.price (c.args.found.price ∷ c.in-Two.a ∷ []) (c.in-Two.b ∷ []) q r in
    record {
      finds = c.worse-in-Two-2.ensures.finds;
      leads = subst (λ xs. Leads loss c.worse-in-Two-2.result.price (c.args.found.price ∷ xs)) (sym e) all;
    }
