use Rattle.std.proofs.Common.{◌≡◌, true, leb, [], ◌∷◌, ◌++◌, nat_abs, vec_items, refl, sym, subst, ap, ◌∙◌, arith, rules}
use Rattle.std.proofs.lemmas.Bool.{and_from, le-leb}
use Rattle.book.specs.declared.position.Position.{Position}
use Rattle.book.specs.Losses.{gross, all_held}
use Rattle.book.specs.Tallies.{Kept, tally_of, holding}
use Rattle.book.proofs.TradedLists.{gross_append, held_append}
use Rattle.book.proofs.book.Book.append.Goals as goal

pub invariant_of-self : goal.invariant_of-self
invariant_of-self g c =
    let old = c.args.self.now in
    let ps = vec_items old.positions in
    let x : Position g.row.K.Denot = record { contract = c.args.contract; net = c.args.quantity } in
    let items : vec_items c.push_reserved.new.self ≡ ps ++ x ∷ [] = search rules in
    let kept = subst (λ qs. Kept g.K.Kind.means (holding (tally_of old) qs)) (sym items) c.requires.kept in record {
      some = old.some;
      most = old.most;
      within = omega (arith, c.requires.room, c.push_reserved.ensures.len);
      room = search rules;
      few = omega (arith, ap gross items, gross_append ps (x ∷ []), c.requires.few);
      held = ap all_held items ∙ held_append ps (x ∷ []) old.held (and_from (leb 1 (nat_abs c.args.quantity)) true (le-leb 1 (nat_abs c.args.quantity) c.requires.some) refl);
      spare = old.spare;
      fitting = kept.fitting;
      distinct = kept.distinct;
    }
