use Rattle.std.proofs.Common.{vec_items, sym, ap, ◌∙◌}
use Rattle.book.specs.Markets.{variation_of}
use Rattle.book.specs.Tallies.{first_unfit}
use Rattle.book.proofs.KeptTallies.{all_fit}
use Rattle.book.proofs.book.Book.change.Goals as goal

pub invariant_of-self : goal.invariant_of-self
invariant_of-self g c =
    let K = g.K.Kind.means in
    let old = c.args.self.now in
    let m = c.in_ok-market.market.numbers in
    let none = ap (first_unfit K (variation_of m) m.ceiling) (sym c.as_slice.ensures.value) ∙ sym c.first_unfit.ensures ∙ c.in_default.is in
    record {
      some = old.some;
      most = old.most;
      within = old.within;
      room = old.room;
      few = old.few;
      held = old.held;
      spare = old.spare;
      fitting = all_fit K _ m.ceiling (vec_items old.positions) none;
      distinct = old.distinct;
    }
