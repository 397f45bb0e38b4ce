use Rattle.std.proofs.Common.{◌≡◌, ◌+◌, ◌*◌, ◌≤◌, List, [], ◌∷◌, length, pos, ◌+ℤ◌, ◌*ℤ◌, nat_abs, refl, sym, ap, ◌∙◌, subst, ap₂, ⊎_elim, arith, w64, SFits, to_z, of_z}
use borrow.Author.Differences.{ints}
use Rattle.std.proofs.lemmas.Int.{to_z-of_z}
use Rattle.book.specs.declared.position.Position.{Position}
use Rattle.book.specs.Losses.{gross}
use Rattle.book.specs.Scenarios.{row_value}
use Rattle.book.proofs.ValueBounds.{same_net, small_fits}
use Rattle.book.proofs.held.Held.row_value.Given as given
use Rattle.book.proofs.held.Held.row_value.Goals as goal

-- what this position adds
added : (g : given.Over) (c : goal.After-times-sum g) → to_z w64 (of_z w64 c.times-sum.result) ≡ c.in-Some.position.now.net *ℤ pos c.in-Some.value.now
added g c =
    let o = c.times-sum.type_inv in
    let few : nat_abs c.in-Some.position.now.net ≤ 10000 = omega (arith, ap gross c.in-Some.ensures.steps.0, c.loop-position.invariant.1) in
    to_z-of_z w64 c.times-sum.result (omega (arith, ints)) ∙ c.times-sum.ensures.is ∙ ap (λ y. y *ℤ pos c.in-Some.value.now) (same_net c.in-Some.position.now.net few)

-- the sum stays small
most : (g : given.Over) (c : goal.After-times-sum g) → nat_abs (c.loop-position.sum +ℤ to_z w64 (of_z w64 c.times-sum.result)) + gross c.next.new.self.a.rest.now * 4294967295 ≤ 10000 * 4294967295
most g c =
    let o = c.times-sum.type_inv in
    let same = to_z-of_z w64 c.times-sum.result (omega (arith, ints)) in
    let few : nat_abs c.in-Some.position.now.net ≤ 10000 = omega (arith, ap gross c.in-Some.ensures.steps.0, c.loop-position.invariant.1) in
    let net = ap nat_abs (same_net c.in-Some.position.now.net few) in
    omega (arith, ints, ap nat_abs same, c.times-sum.ensures.bound, net, ap gross c.in-Some.ensures.steps.0, c.loop-position.invariant.1)

pub overflow_add-sum : goal.overflow_add-sum
overflow_add-sum g c =
    subst (λ z. SFits w64 (z +ℤ to_z w64 (of_z w64 c.times-sum.result))) (sym c.loop-position.sum-is) (small_fits _ (omega (arith, most g c)))

pub loop-position-preserved : goal.loop-position-preserved
loop-position-preserved g c =
    let m = most g c in
    let sum : to_z w64 (of_z w64 (to_z w64 c.loop-position.sum-bits +ℤ to_z w64 (of_z w64 c.times-sum.result))) ≡ c.loop-position.sum +ℤ to_z w64 (of_z w64 c.times-sum.result) =
    ap (λ z. to_z w64 (of_z w64 (z +ℤ to_z w64 (of_z w64 c.times-sum.result)))) c.loop-position.sum-is ∙ to_z-of_z w64 _ (small_fits _ (omega (arith, m))) in
    let left = ap₂ row_value c.in-Some.ensures.steps.0 c.in-Some.ensures.steps.1 in
    let e = c.loop-position.invariant.0 in
    let a = added g c in (
      omega (arith, ints, sum, left, e, a),
      omega (arith, ap nat_abs sum, m),
    )

nothing_left : {C : Type 0} (ps : List (Position C)) (xs : List _) → length xs ≡ 0 → row_value ps xs ≡ pos 0
nothing_left [] xs e = refl
nothing_left (p ∷ ps) [] e = refl
nothing_left (p ∷ ps) (x ∷ xs) e = absurd (omega arith)

no_position : {C : Type 0} (ps : List (Position C)) (xs : List _) → length ps ≡ 0 → row_value ps xs ≡ pos 0
no_position [] xs e = refl
no_position (p ∷ ps) xs e = absurd (omega arith)

pub returns : goal.returns
returns g c =
    let rest : row_value c.loop-position.position-iterator.a.rest.now c.loop-position.position-iterator.b.rest.now ≡ pos 0 = ⊎_elim (λ s. no_position _ _ s.1.0) (λ s. nothing_left _ _ s.1.0) c.in-None.ensures.steps in
    let e = c.loop-position.invariant.0 in
    c.loop-position.sum-is ∙ omega (arith, ints, rest, e)
