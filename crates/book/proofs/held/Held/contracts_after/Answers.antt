use Rattle.std.proofs.Common.{◌≡◌, ◌≤◌, get_or, ℤ, ◌+ℤ◌, nat_abs, ap, ◌∙◌, ap₂, arith, w32, SFits, to_z, of_z}
use Rattle.std.proofs.lemmas.Int.{to_z-of_z}
use borrow.Author.Differences.{ints}
use Rattle.std.proofs.lemmas.List.{get_or_default}
use Rattle.book.specs.declared.position.Position.{Position}
use Rattle.book.proofs.ValueBounds.{net_most}
use Rattle.book.proofs.TradedLists.{gross_at}
use Rattle.book.proofs.held.Held.contracts_after.Goals as goal

-- the size of a small sum
sum_size : (x q : ℤ) → nat_abs x ≤ 10000 → nat_abs q ≤ 10000 → nat_abs (to_z w32 (of_z w32 (to_z w32 (of_z w32 x) +ℤ to_z w32 (of_z w32 q)))) ≡ nat_abs (x +ℤ q)
sum_size x q h k =
    let a : to_z w32 (of_z w32 x) ≡ x = omega (arith, ints) in
    let b : to_z w32 (of_z w32 q) ≡ q = omega (arith, ints) in
    let f : SFits w32 (x +ℤ q) = omega (arith, ints) in
    ap nat_abs (ap (λ z. to_z w32 (of_z w32 z)) (ap₂ (λ y z. y +ℤ z) a b) ∙ to_z-of_z w32 (x +ℤ q) f)

pub overflow_sub-result : goal.overflow_sub-result
overflow_sub-result g c =
    let n = net_most c.args.index c.args.self.now.positions.now c.index-self-index.result c.requires in
    let v = c.unsigned_abs.ensures.value in
    omega (arith, ints, c.contracts.ensures, c.args.self.now.few)

pub overflow_add-held : goal.overflow_add-held
overflow_add-held g c =
    let n = net_most c.args.index c.args.self.now.positions.now c.index-self-index.result c.requires in
    omega (arith, ints, c.args.self.now.few, c.args.quantity.most)

pub returns : goal.returns
returns g c = λ d.
    let ps = c.args.self.now.positions.now in
    let i = c.args.index in
    let x = c.index-self-index.result in
    let n = net_most i ps x c.requires in
    let p = get_or ps i d in
    let same = ap (λ (o : Position _). o.net) (get_or_default ps i x d c.requires) in
    let few : nat_abs (get_or ps i x).net ≤ 10000 = omega (arith, n, c.args.self.now.few) in
    let a : to_z w32 (of_z w32 (get_or ps i x).net) ≡ (get_or ps i x).net = omega (arith, ints) in
    let v = c.unsigned_abs.ensures.value ∙ ap nat_abs (a ∙ same) in
    let w = c.unsigned_abs-2.ensures.value ∙ sum_size (get_or ps i x).net c.args.quantity.contracts few c.args.quantity.most ∙ ap (λ z. nat_abs (z +ℤ c.args.quantity.contracts)) same in
    let all = gross_at ps i p c.args.quantity.contracts c.requires (get_or_default ps i d p c.requires) in
    let m = net_most i ps d c.requires in
    omega (arith, c.contracts.ensures, v, w, all, m)
