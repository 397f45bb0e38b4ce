use Rattle.std.proofs.Common.{[], ◌∷◌, ◌++◌, nat_abs, vec_items, refl, ap, ◌∙◌, arith, w32}
use Rattle.std.proofs.lemmas.List.{length_push}
use Rattle.std.proofs.lemmas.Int.{to_z-of_z}
use Rattle.book.specs.declared.position.Position.{Position}
use Rattle.book.specs.Losses.{gross}
use Rattle.book.specs.Tallies.{tally_of}
use Rattle.book.proofs.EndRefusals.{too_many_contracts, no_place}
use Rattle.book.proofs.TradedLists.{gross_append}
use Rattle.book.proofs.book.Book.trade_new.Goals as goal

pub returns-then-contracts-unsigned_abs-gt10000 : goal.returns-then-contracts-unsigned_abs-gt10000
returns-then-contracts-unsigned_abs-gt10000 g c =
    let old = c.args.self.now in
    let ps = vec_items old.positions in
    let x : Position g.row.K.Denot = record { contract = c.args.contract; net = c.args.quantity.contracts } in
    let n = c.contracts.ensures ∙ ap gross c.held.ensures.0 in
    let q = c.unsigned_abs.ensures.value ∙ ap nat_abs (to_z-of_z w32 c.args.quantity.contracts (omega (arith, c.args.quantity.most))) in
    (too_many_contracts (tally_of old) (ps ++ x ∷ []) (omega (arith, gross_append ps (x ∷ []), n, q, c.if-contracts-unsigned_abs-gt10000.true)), refl)

pub returns-then-len-self : goal.returns-then-len-self
returns-then-len-self g c =
    let old = c.args.self.now in
    let ps = vec_items old.positions in
    let x : Position g.row.K.Denot = record { contract = c.args.contract; net = c.args.quantity.contracts } in
    let n = c.contracts.ensures ∙ ap gross c.held.ensures.0 in
    let q = c.unsigned_abs.ensures.value ∙ ap nat_abs (to_z-of_z w32 c.args.quantity.contracts (omega (arith, c.args.quantity.most))) in
    (no_place (tally_of old) (ps ++ x ∷ []) (omega (arith, gross_append ps (x ∷ []), n, q, c.if-contracts-unsigned_abs-gt10000.false)) (omega (arith, length_push ps x, old.positions.ok.0, c.len.ensures, c.if-len-self.true)), refl)
