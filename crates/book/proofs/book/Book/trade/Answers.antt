use Rattle.std.proofs.Common.{◌≡◌, ◌≤◌, true, List, [], ◌∷◌, ◌++◌, get_or, ℤ, pos, nat_abs, vec_items, sym, ap, ◌∙◌, subst, w32, rules}
use Rattle.std.specs.List.{position}
use Rattle.std.proofs.lemmas.List.{get_or_default}
use Rattle.std.proofs.lemmas.Int.{to_z-of_z}
use Rattle.book.specs.declared.position.Position.{Position}
use Rattle.book.specs.Markets.{outside, variation_of}
use Rattle.book.specs.Tallies.{Kept, tally_of, holding, ends_refusal, Told}
use Rattle.book.specs.Trades.{traded_at}
use Rattle.book.proofs.EndRefusals.{ended}
use Rattle.book.proofs.FoundPlaces.{none_passes, first_passes}
use Rattle.book.proofs.KeptTallies.{traded_kept}
use Rattle.book.proofs.TradedLists.{traded_held, traded_new, put_some}
use Rattle.book.proofs.book.Book.trade.Goals as goal

pub trade_held-requires-clause-kept : goal.trade_held-requires-clause-kept
trade_held-requires-clause-kept g c = λ d.
    let K = g.K.Kind.means in
    let old = c.args.self.now in
    let ps = vec_items old.positions in
    let i = c.in-Some.index in
    let p = get_or ps i d in
    let q = c.in_ok-quantity.quantity.contracts in
    let f = first_passes (λ x. K.same x.contract c.args.contract) ps i (ap (position (λ x. K.same x.contract c.args.contract)) (sym c.as_slice.ensures.value) ∙ sym c.find.ensures ∙ c.in-Some.is) in
    let fits : K.fits c.args.contract (variation_of old.market.numbers) old.market.numbers.ceiling ≡ true = search rules in
    let e = traded_held K c.args.contract q ps i p f.inside (get_or_default ps i d p f.inside) f.none_before (f.passes d) in
    subst (λ qs. Kept K (holding (tally_of old) qs)) e (traded_kept K (tally_of old) c.args.contract q (record { fitting = old.fitting; distinct = old.distinct }) fits)

pub trade_new-requires : goal.trade_new-requires
trade_new-requires g c =
    let K = g.K.Kind.means in
    let old = c.args.self.now in
    let ps = vec_items old.positions in
    let q = c.in_ok-quantity.quantity in
    let f = none_passes (λ x. K.same x.contract c.args.contract) ps (ap (position (λ x. K.same x.contract c.args.contract)) (sym c.as_slice.ensures.value) ∙ sym c.find.ensures ∙ c.in-None.is) in
    let fits : K.fits c.args.contract (variation_of old.market.numbers) old.market.numbers.ceiling ≡ true = search rules in
    let e = traded_new K c.args.contract q.contracts ps f ∙ ap (λ qs. ps ++ qs) (put_some c.args.contract q.contracts [] q.some) in
    record { kept = subst (λ qs. Kept K (holding (tally_of old) qs)) e (traded_kept K (tally_of old) c.args.contract q.contracts (record { fitting = old.fitting; distinct = old.distinct }) fits) }

pub returns-in-Some : goal.returns-in-Some
returns-in-Some g c =
    let K = g.K.Kind.means in
    let old = c.args.self.now in
    let ps = vec_items old.positions in
    let i = c.in-Some.index in
    let same = to_z-of_z w32 c.args.quantity c.ranges.quantity in
    let inside = ap (λ z. outside (nat_abs z) 1 10000) (sym same) ∙ c.in_ok-quantity.ensures.0 in
    let is = c.in_ok-quantity.ensures.1 ∙ same in
    let d : Position g.row.K.Denot = record { contract = c.args.contract; net = pos 0 } in
    let p = get_or ps i d in
    let f = first_passes (λ x. K.same x.contract c.args.contract) ps i (ap (position (λ x. K.same x.contract c.args.contract)) (sym c.as_slice.ensures.value) ∙ sym c.find.ensures ∙ c.in-Some.is) in
    let fits : K.fits c.args.contract (variation_of old.market.numbers) old.market.numbers.ceiling ≡ true = search rules in
    let e = traded_held K c.args.contract c.args.quantity ps i p f.inside (get_or_default ps i d p f.inside) f.none_before (f.passes d) in
    ended K (tally_of old) c.args.contract c.args.quantity (traded_at ps i p c.args.quantity) (tally_of c.trade_held.new.self) c.trade_held.result inside fits e
    (subst (λ z. Told (ends_refusal (tally_of old) (traded_at ps i p z)) (tally_of old) (holding (tally_of old) (traded_at ps i p z)) (tally_of c.trade_held.new.self) c.trade_held.result) is (c.trade_held.ensures d))

pub returns-in-None : goal.returns-in-None
returns-in-None g c =
    let K = g.K.Kind.means in
    let old = c.args.self.now in
    let ps = vec_items old.positions in
    let same = to_z-of_z w32 c.args.quantity c.ranges.quantity in
    let inside = ap (λ z. outside (nat_abs z) 1 10000) (sym same) ∙ c.in_ok-quantity.ensures.0 in
    let is = c.in_ok-quantity.ensures.1 ∙ same in
    let f = none_passes (λ x. K.same x.contract c.args.contract) ps (ap (position (λ x. K.same x.contract c.args.contract)) (sym c.as_slice.ensures.value) ∙ sym c.find.ensures ∙ c.in-None.is) in
    let fits : K.fits c.args.contract (variation_of old.market.numbers) old.market.numbers.ceiling ≡ true = search rules in
    let some = subst (λ z. 1 ≤ nat_abs z) is c.in_ok-quantity.quantity.some in
    let after : ℤ → List (Position g.row.K.Denot) = λ z. ps ++ record { contract = c.args.contract; net = z } ∷ [] in
    let e = traded_new K c.args.contract c.args.quantity ps f ∙ ap (λ qs. ps ++ qs) (put_some c.args.contract c.args.quantity [] some) in
    ended K (tally_of old) c.args.contract c.args.quantity (after c.args.quantity) (tally_of c.trade_new.new.self) c.trade_new.result inside fits e
    (subst (λ z. Told (ends_refusal (tally_of old) (after z)) (tally_of old) (holding (tally_of old) (after z)) (tally_of c.trade_new.new.self) c.trade_new.result) is c.trade_new.ensures)
