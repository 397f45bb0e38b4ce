use Rattle.std.proofs.Common.{◌≡◌, ◌*◌, ◌≤◌, pos, ◌*ℤ◌, nat_abs, sym, ap, ◌∙◌, subst, ap₂, le_refl, mul-le-mul_right, arith, w64, SFits, to_z, of_z}
use Rattle.std.proofs.lemmas.Int.{to_z-of_z}
use borrow.Author.Differences.{ints}
use Rattle.book.proofs.ValueBounds.{product_most, small_fits}
use Rattle.book.proofs.times.times.Goals as goal

quantity_is : (c : goal.After-from-2) → to_z w64 (of_z w64 c.from.result) ≡ c.args.quantity
quantity_is c = let few = c.requires in let e = c.from.ensures in omega (arith, ints)

each_is : (c : goal.After-from-2) → to_z w64 (of_z w64 c.from-2.result) ≡ pos c.args.each
each_is c = let k = c.from-2.type_inv in to_z-of_z w64 c.from-2.result (omega (arith, ints)) ∙ c.from-2.ensures

product_is : (c : goal.After-from-2) → to_z w64 (of_z w64 c.from.result) *ℤ to_z w64 (of_z w64 c.from-2.result) ≡ c.args.quantity *ℤ pos c.args.each
product_is c = ap₂ (λ a b. a *ℤ b) (quantity_is c) (each_is c)

size : (c : goal.After-from-2) → nat_abs (c.args.quantity *ℤ pos c.args.each) ≤ nat_abs c.args.quantity * 4294967295
size c =
    let k : c.args.each ≤ 4294967295 = omega (arith, c.ranges.each.fits) in
    product_most c.args.quantity c.args.each (nat_abs c.args.quantity) 4294967295 (le_refl _) k

small : (c : goal.After-from-2) → SFits w64 (c.args.quantity *ℤ pos c.args.each)
small c = small_fits (c.args.quantity *ℤ pos c.args.each) (omega (arith, size c, mul-le-mul_right 4294967295 c.requires))

times_is : (c : goal.After-from-2) → to_z w64 (of_z w64 (to_z w64 (of_z w64 c.from.result) *ℤ to_z w64 (of_z w64 c.from-2.result))) ≡ c.args.quantity *ℤ pos c.args.each
times_is c = ap (λ z. to_z w64 (of_z w64 z)) (product_is c) ∙ to_z-of_z w64 _ (small c)

pub returns : goal.returns
returns c = record {
  is = times_is c;
  bound = subst (λ z. nat_abs z ≤ nat_abs c.args.quantity * 4294967295) (sym (times_is c)) (size c);
}
