use Rattle.std.proofs.Common.{◌≡◌, ◌+◌, ◌*◌, ◌≤◌, take, ℤ, ◌+ℤ◌, nat_abs, sym, ap, ◌∙◌, subst, ap₂, mul-le-mul_right, add-mul, arith, w64, SFits, to_z, of_z}
use borrow.Author.Differences.{ints}
use Rattle.std.proofs.lemmas.Int.{to_z-of_z}
use Rattle.book.specs.Losses.{gross}
use Rattle.book.proofs.MarketFacts.{ceiling_low}
use Rattle.book.proofs.ValueBounds.{value_more, gross_more, gross_take, net_most, small_fits, item_fits}
use Rattle.book.proofs.held.Held.value.Given as given
use Rattle.book.proofs.held.Held.value.Goals as goal

pub worth-sum-requires : goal.worth-sum-requires
worth-sum-requires g c =
    let e = c.position-item.is in
    rw e (omega (arith, net_most c.loop-position.position-index c.args.self.now.positions.now c.position-item.result c.loop-position-test.true, c.requires))

-- the sum with this position
size : (g : given.Over) (c : goal.After-worth-sum g) → nat_abs (c.loop-position.sum +ℤ c.worth-sum.result) ≤ gross (take (c.loop-position.position-index + 1) c.args.self.now.positions.now) * 4294967295
size g c =
    let ps = c.args.self.now.positions.now in
    let i = c.loop-position.position-index in
    let net = nat_abs c.position-item.result.net in
    let m = gross_more ps i c.position-item.result c.loop-position-test.true c.position-item.is in
    let d = ap (λ n. n * 4294967295) m ∙ add-mul (gross (take i ps)) net 4294967295 in
    let b = c.worth-sum.ensures.bound in
    let a = c.loop-position.invariant.1 in
    omega (arith, ints, d, a, b)

small : (g : given.Over) (c : goal.After-worth-sum g) → SFits w64 (c.loop-position.sum +ℤ c.worth-sum.result)
small g c =
    small_fits (c.loop-position.sum +ℤ c.worth-sum.result) (omega (arith, size g c, mul-le-mul_right 4294967295 (gross_take (c.loop-position.position-index + 1) c.args.self.now.positions.now), mul-le-mul_right 4294967295 c.args.self.now.few))

worth_is : (g : given.Over) (c : goal.After-worth-sum g) → to_z w64 (of_z w64 c.worth-sum.result) ≡ c.worth-sum.result
worth_is g c = let o = c.worth-sum.type_inv in to_z-of_z w64 c.worth-sum.result (omega (arith, ints))

pub overflow_add-sum : goal.overflow_add-sum
overflow_add-sum g c = subst (SFits w64) (sym (ap₂ (λ a b. a +ℤ b) c.loop-position.sum-is (worth_is g c))) (small g c)

sum_is : (g : given.Over) (c : goal.After-worth-sum g) (z : ℤ) → z ≡ c.loop-position.sum → to_z w64 (of_z w64 (z +ℤ to_z w64 (of_z w64 c.worth-sum.result))) ≡ c.loop-position.sum +ℤ c.worth-sum.result
sum_is g c z e = ap (λ y. to_z w64 (of_z w64 y)) (ap₂ (λ a b. a +ℤ b) e (worth_is g c)) ∙ to_z-of_z w64 _ (small g c)

pub loop-position-preserved : goal.loop-position-preserved
loop-position-preserved g c =
    let K = g.K.Kind.means in
    let held = c.args.self.now in
    let v = held.variation in
    let u = held.market.numbers.ceiling in
    let ps = held.positions.now in
    let i = c.loop-position.position-index in
    let p = c.position-item.result in
    let f = item_fits K v u ps i p c.loop-position-test.true c.position-item.is held.fitting in (
      omega (arith, c.loop-position-test.true),
      subst (λ z. nat_abs z ≤ gross (take (i + 1) ps) * 4294967295) (sym (sum_is g c _ c.loop-position.sum-is)) (size g c),
      sum_is g c _ c.loop-position.sum-is ∙ ap₂ (λ a b. a +ℤ b) (sym c.loop-position.sum-is ∙ c.loop-position.invariant.2) (c.worth-sum.ensures.exact u f c.requires (ceiling_low held.market)) ∙ sym (value_more K v c.args.price ps i p c.loop-position-test.true c.position-item.is),
    )
