use Rattle.std.proofs.Common.{◌≡◌, ℕ, suc, ◌+◌, ◌-◌, ◌*◌, ◌<◌, ◌≤◌, List, length, get_or, take, pos, ◌*ℤ◌, neg_ℤ, nat_abs, sym, ap, ◌∙◌, ap₂, le_refl, mul-le-mul_right, add-mul, arith, take_all, w64}
use borrow.Author.Differences.{ints}
use Rattle.std.specs.Int.{int_max}
use Rattle.std.proofs.lemmas.Int.{to_z-of_z}
use Rattle.book.specs.declared.position.Position.{Position}
use Rattle.book.specs.Losses.{gross}
use Rattle.book.specs.Prices.{centavos}
use Rattle.book.specs.Markets.{value_unit}
use Rattle.book.specs.Scenarios.{row_value, scenario_loss, scenario_losses, greatest}
use Rattle.book.proofs.MarketFacts.{right, stressed_most}
use Rattle.book.proofs.Rounding.{centavos_max}
use Rattle.book.proofs.ScenarioRows.{row_most}
use Rattle.book.proofs.held.Held.stressed.Goals as goal

-- what is left of the table, by one row and the rest
left : (s i n : ℕ) → i < s → (s - i) * n ≡ n + (s - (i + 1)) * n
left s i n l =
    let e : s - i ≡ 1 + (s - (i + 1)) = omega arith in
    ap (λ k. k * n) e ∙ add-mul 1 (s - (i + 1)) n ∙ omega arith

-- a row whose values have a limit, in exact units
row_size : {C : Type 0} (ps : List (Position C)) (rest row : List ℕ) (limit unit : ℕ) → gross ps ≤ 10000 → ((k : ℕ) → get_or rest k 0 ≤ limit) → row ≡ take (length ps) rest → 10000 * limit * unit ≤ 5000000000000000000 → nat_abs (row_value ps row) * unit ≤ 5000000000000000000
row_size ps rest row limit unit few values e low =
    let n = length ps in
    let whole = take_all n ps (le_refl n) in
    let most = row_most n ps rest limit values in
    let same : nat_abs (row_value (take n ps) (take n rest)) ≡ nat_abs (row_value ps row) = ap₂ (λ qs xs. nat_abs (row_value qs xs)) whole (sym e) in
    let g = ap (λ qs. gross qs * limit) whole in
    let a : nat_abs (row_value ps row) ≤ 10000 * limit = omega (arith, most, same, g, mul-le-mul_right limit few) in
    omega (arith, mul-le-mul_right unit a, low)

pub loop-preserved : goal.loop-preserved
loop-preserved g c =
    let ps = c.args.self.now.positions.now in
    let n = length ps in
    let m = c.args.self.now.market.numbers in
    let unit = value_unit m in
    let u = c.value_unit-unit.ensures in
    let rest = c.loop.rest.now in
    let row = c.split_at.result.0.now in
    let s = c.args.scenarios in
    let i = c.loop.counter in
    let next : s - i ≡ suc (s - (i + 1)) = omega (arith, c.loop-test.true) in
    let o = c.row_value.type_inv in
    let x = c.exact_loss.type_inv in
    let value = to_z-of_z w64 c.row_value.result (omega (arith, ints)) ∙ c.row_value.ensures in
    let low = row_size ps rest row (100 * m.ceiling) unit c.args.self.now.few c.loop.invariant.1 c.split_at.ensures.front (stressed_most m (right m c.args.self.now.market.right)) in
    let loss = to_z-of_z w64 c.exact_loss.result (omega (arith, ints)) ∙ c.exact_loss.ensures (omega (arith, ap₂ (λ z k. nat_abs z * k) value u, low)) ∙ ap₂ (λ z k. neg_ℤ z *ℤ pos k) value u ∙ ap (scenario_loss unit ps) c.split_at.ensures.front in
    let top = c.max-most.type_inv in
    let most = ap centavos (to_z-of_z w64 c.max-most.result (omega (arith, ints)) ∙ c.max-most.ensures.value ∙ ap₂ int_max c.loop.most-is loss) ∙ centavos_max c.loop.most (scenario_loss unit ps (take n rest)) in (
      omega (arith, c.split_at.ensures.back_len, c.loop.invariant.0, left s i n c.loop-test.true),
      λ k. omega (arith, c.split_at.ensures.by_index.2 k 0, c.loop.invariant.1 (n + k)),
      ap₂ (λ m xs. greatest m (scenario_losses unit ps (s - (i + 1)) xs)) most c.split_at.ensures.back
          ∙ sym (ap (λ k. greatest (centavos c.loop.most) (scenario_losses unit ps k rest)) next)
          ∙ ap (λ z. greatest (centavos z) (scenario_losses unit ps (s - i) rest)) (sym c.loop.most-is)
          ∙ c.loop.invariant.2,
    )
