use Rattle.std.proofs.Common.{◌≡◌, ℕ, ◌<◌, ◌≤◌, List, length, get_or, set, ℤ, pos, ◌+ℤ◌, nat_abs, vec_items, sym, ap, ◌∙◌, subst, ap₂, ⊎_elim, arith, w32, SFits, to_z, of_z}
use Rattle.std.proofs.lemmas.Bool.{cases_lt}
use borrow.Author.Differences.{ints}
use Rattle.std.proofs.lemmas.Int.{to_z-of_z}
use Rattle.std.proofs.lemmas.List.{get_or_default}
use Rattle.book.specs.declared.position.Position.{Position}
use Rattle.book.specs.Losses.{gross, all_held}
use Rattle.book.specs.Tallies.{Kept, tally_of, holding}
use Rattle.book.specs.Trades.{traded_at}
use Rattle.book.proofs.ValueBounds.{net_small}
use Rattle.book.proofs.TradedLists.{at_held, at_zero, at_some}
use Rattle.book.proofs.book.Book.add.Goals as goal

-- a small sum is exact in 32 bits
sum_is : (x q : ℤ) → nat_abs x ≤ 10000 → nat_abs q ≤ 10000 → to_z w32 (of_z w32 (to_z w32 (of_z w32 x) +ℤ to_z w32 (of_z w32 q))) ≡ x +ℤ q
sum_is x q h k =
    let a : to_z w32 (of_z w32 x) ≡ x = omega (arith, ints) in
    let b : to_z w32 (of_z w32 q) ≡ q = omega (arith, ints) in
    let f : SFits w32 (x +ℤ q) = omega (arith, ints) in
    ap (λ z. to_z w32 (of_z w32 z)) (ap₂ (λ y z. y +ℤ z) a b) ∙ to_z-of_z w32 (x +ℤ q) f

pub overflow_add-net : goal.overflow_add-net
overflow_add-net g c =
    let n = net_small (vec_items c.args.self.now.positions) c.args.index c.index.result.now c.requires.within c.index.ensures c.args.self.now.few in
    omega (arith, ints, c.args.quantity.most)

pub invariant_of-self : goal.invariant_of-self
invariant_of-self g c =
    let old = c.args.self.now in
    let ps = vec_items old.positions in
    let i = c.args.index in
    let p = c.index.result.now in
    let q = c.args.quantity.contracts in
    let n = net_small ps i p c.requires.within c.index.ensures old.few in
    let zero : p.net +ℤ q ≡ pos 0 = sym (sum_is p.net q n c.args.quantity.most) ∙ ap (to_z w32) c.if-net-eq0.true in
    let items = c.remove.ensures.items ∙ sym (at_zero ps i p q zero) in
    let few = subst (λ o. gross (traded_at ps i o q) ≤ 10000) (sym c.index.ensures) (c.requires.few p) in
    let kept = subst (λ qs. Kept g.K.Kind.means (holding (tally_of old) qs)) (sym items) (subst (λ o. Kept g.K.Kind.means (holding (tally_of old) (traded_at ps i o q))) (sym c.index.ensures) (c.requires.kept p)) in record {
      some = old.some;
      most = old.most;
      within = omega (arith, old.within, c.remove.ensures.len);
      room = omega (arith, old.room, c.remove.ensures.capacity);
      few = omega (arith, ap gross items, few);
      held = ap all_held items ∙ at_held ps i p q old.held;
      spare = old.spare;
      fitting = kept.fitting;
      distinct = kept.distinct;
    }

-- a sum that is not 0 in 32 bits is not zero
sum_some : (x q : ℤ) → nat_abs x ≤ 10000 → nat_abs q ≤ 10000 → (of_z w32 (to_z w32 (of_z w32 x) +ℤ to_z w32 (of_z w32 q)) ≡ 0 → ⊥) → 1 ≤ nat_abs (x +ℤ q)
sum_some x q h k n =
    let a : to_z w32 (of_z w32 x) ≡ x = omega (arith, ints) in
    let b : to_z w32 (of_z w32 q) ≡ q = omega (arith, ints) in
    ⊎_elim (λ l. let e : x +ℤ q ≡ pos 0 = omega (arith, ints) in absurd (n (ap (of_z w32) (ap₂ (λ y z. y +ℤ z) a b ∙ e)))) (λ l. l) (cases_lt (nat_abs (x +ℤ q)) 1)

-- the position that is set
set_is : {C : Type 0} (ps : List (Position C)) (i : ℕ) (p m : Position C) (q s : ℤ) → i < length ps → p ≡ get_or ps i p → m ≡ get_or ps i m → s ≡ p.net +ℤ q → 1 ≤ nat_abs (p.net +ℤ q) → set ps i (record { contract = m.contract; net = s }) ≡ traded_at ps i p q
set_is ps i p m q s l e f n some =
    let same = f ∙ get_or_default ps i m p l ∙ sym e in
    ap₂ (λ (o : Position _) z. set ps i (record { contract = o.contract; net = z })) same n ∙ sym (at_some ps i p q l some)

pub invariant_of-self-else-net-eq0 : goal.invariant_of-self-else-net-eq0
invariant_of-self-else-net-eq0 g c =
    let old = c.args.self.now in
    let ps = vec_items old.positions in
    let i = c.args.index in
    let p = c.index.result.now in
    let q = c.args.quantity.contracts in
    let n = net_small ps i p c.requires.within c.index.ensures old.few in
    let some = sum_some p.net q n c.args.quantity.most c.if-net-eq0.false in
    let items = set_is ps i p c.index_mut.result.now q _ c.requires.within c.index.ensures c.index_mut.ensures.value (sum_is p.net q n c.args.quantity.most) some in
    let few = subst (λ o. gross (traded_at ps i o q) ≤ 10000) (sym c.index.ensures) (c.requires.few p) in
    let kept = subst (λ qs. Kept g.K.Kind.means (holding (tally_of old) qs)) (sym items) (subst (λ o. Kept g.K.Kind.means (holding (tally_of old) (traded_at ps i o q))) (sym c.index.ensures) (c.requires.kept p)) in record {
      some = old.some;
      most = old.most;
      within = old.within;
      room = old.room;
      few = omega (arith, ap gross items, few);
      held = ap all_held items ∙ at_held ps i p q old.held;
      spare = old.spare;
      fitting = kept.fitting;
      distinct = kept.distinct;
    }

pub returns-else-net-eq0 : goal.returns-else-net-eq0
returns-else-net-eq0 g c = λ d.
    let old = c.args.self.now in
    let ps = vec_items old.positions in
    let i = c.args.index in
    let p = c.index.result.now in
    let q = c.args.quantity.contracts in
    let n = net_small ps i p c.requires.within c.index.ensures old.few in
    let some = sum_some p.net q n c.args.quantity.most c.if-net-eq0.false in
    let items = set_is ps i p c.index_mut.result.now q _ c.requires.within c.index.ensures c.index_mut.ensures.value (sum_is p.net q n c.args.quantity.most) some in
    let same = c.index.ensures ∙ get_or_default ps i p d c.requires.within in
    ap (λ xs. record { places = old.places; market = old.market.numbers; positions = xs }) (items ∙ ap (λ o. traded_at ps i o q) same)
