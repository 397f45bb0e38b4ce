use Rattle.std.proofs.Common.{◌≡◌, ◌*◌, max, cond, not, eqb, ltb, length, Some, vec_items, sym, ap, ◌∙◌, subst, ap₂, arith}
use Rattle.std.specs.Option.{option_map}
use Rattle.std.proofs.lemmas.Bool.{or_from, le-ltb, eq-eqb}
use Rattle.book.specs.declared.refusal.Refusal.TheVariants.{Scenarios, TableLength, ScenarioValue}
use Rattle.book.specs.Losses.{loss}
use Rattle.book.specs.Markets.{variation_of, price_unit, value_unit}
use Rattle.book.specs.Prices.{Least, CoversBoth}
use Rattle.book.specs.Scenarios.{scenario_losses, greatest, first_above}
use Rattle.book.proofs.LawfulRuns.{valid}
use Rattle.book.proofs.ScenarioCovers.{both_least, none_above}
use Rattle.book.proofs.book.Book.required.Goals as goal

pub stressed-stressed-requires : goal.stressed-stressed-requires
stressed-stressed-requires g c =
    let h = c.held.ensures in
    let m = c.args.self.now.market.numbers in
    record {
      values = λ k. omega (arith, none_above (100 * m.ceiling) c.args.table.now (sym c.first_above.ensures ∙ c.in_default.is) k, ap (λ n. n.numbers.ceiling) h.1);
      whole = c.if-table-scenarios.false ∙ ap (λ n. c.args.scenarios * n) (c.len.ensures ∙ c.args.self.now.positions.ok.0 ∙ ap length (sym h.0));
    }

pub returns : goal.returns
returns g c =
    let K = g.K.Kind.means in
    let old = c.args.self.now in
    let m = old.market.numbers in
    let ps = vec_items old.positions in
    let s = c.args.scenarios in
    let table = c.args.table.now in
    let inside = or_from (ltb s 1) (ltb 405 s) (le-ltb s 1 c.if-scenarios-lt1.false) (le-ltb 405 s c.if-scenarios-gt405.false) in
    let whole : length table ≡ s * length ps = c.if-table-scenarios.false ∙ ap (λ n. s * n) (c.len.ensures ∙ old.positions.ok.0) in
    let refusal =
    ap (λ b. cond b (Some Scenarios) (cond (not (eqb (length table) (s * length ps))) (Some TableLength) (option_map (λ i. ScenarioValue i) (first_above (100 * m.ceiling) table)))) inside
    ∙ ap (λ b. cond (not b) (Some TableLength) (option_map (λ i. ScenarioValue i) (first_above (100 * m.ceiling) table))) (eq-eqb (length table) (s * length ps) whole)
    ∙ ap (option_map (λ i. ScenarioValue i)) (sym c.first_above.ensures ∙ c.in_default.is) in record {
      told = (
        refusal,
        λ k.
            let least = c.minimum-minimum.ensures.covers in
            let stressed = c.stressed-stressed.ensures ∙ ap₂ (λ n qs. greatest 0 (scenario_losses (value_unit n.numbers) qs s table)) c.held.ensures.1 c.held.ensures.0 in
            let n = c.max.ensures ∙ ap (max c.minimum-minimum.result.0) stressed in
            subst (Least (CoversBoth (loss K (variation_of m) (price_unit m) ps) (scenario_losses (value_unit m) ps s table))) (sym n)
            (both_least (loss K (variation_of m) (price_unit m) ps) (scenario_losses (value_unit m) ps s table) c.minimum-minimum.result.0 least),
      );
      kept = (valid old).kept;
    }
