use Rattle.std.proofs.Common.{◌≡◌, ℕ, ◌*◌, ◌≤◌, ℤ, pos, ◌*ℤ◌, neg_ℤ, nat_abs, ◌≤ℤ◌, ◌<ℤ◌, Some, None, sym, ap, ◌∙◌, subst, ap₂, arith, w64, SFits, rules}
use borrow.Author.Differences.{ints}
use Rattle.std.proofs.lemmas.Int.{to_z-of_z}
use Rattle.kinds.specs.declared.kind.Kind.{Ghosts}
use Rattle.kinds.specs.Kinds.{Lawful}
use Rattle.book.specs.declared.found.Found.{Found}
use Rattle.book.specs.declared.held.Held.{Held}
use Rattle.book.specs.Losses.{value, loss, lost, gross, Finds}
use Rattle.book.specs.Markets.{price_unit}
use Rattle.book.specs.Prices.{Margin, Worst, centavos}
use Rattle.book.proofs.MarketFacts.{right, unit_some, product_most}
use Rattle.book.proofs.MarginAnswers.{margin_some, margin_none}
use Rattle.book.proofs.SearchSteps.{worst_scaled}
use Rattle.book.proofs.ValueBounds.{value_most}
use Rattle.book.proofs.held.Held.minimum.Goals as goal

-- What the search found, whose loss z is in exact units, gives the margin.
pub record Answered {C : Type 0} {g : Ghosts C} (h : Held C g) (price : ℕ) (z : ℤ) : Type 0 where
  pub some : pos 0 <ℤ z → Margin (loss g.means h.variation (price_unit h.market.numbers) h.positions.now) (centavos z) (Some price)
  pub none : z ≤ℤ pos 0 → Margin (loss g.means h.variation (price_unit h.market.numbers) h.positions.now) 0 None

answered : {C : Type 0} {g : Ghosts C} → Lawful g.means → (h : Held C g) (found : Found) → Finds g.means h.variation h.market.numbers.ceiling h.positions.now found → Worst (lost g.means h.variation h.positions.now) found.price → (gain : ℤ) (unit : ℕ) (z : ℤ) → gain ≡ found.gain → unit ≡ price_unit h.market.numbers → (nat_abs gain * unit ≤ 5000000000000000000 → z ≡ neg_ℤ gain *ℤ pos unit) → Answered h found.price z
answered {g = g} laws h found finds worst gain unit z e q k =
    let m = h.market.numbers in
    let r = right m h.market.right in
    let ps = h.positions.now in
    let l = loss g.means h.variation (price_unit m) ps in
    let here = e ∙ finds.read in
    let most = value_most g.means laws h.variation m.ceiling ps found.price h.fitting finds.under in
    let low = product_most m r (nat_abs (value g.means h.variation ps found.price)) (gross ps) h.few most in
    let t : nat_abs gain * unit ≡ nat_abs (value g.means h.variation ps found.price) * price_unit m = ap₂ (λ y n. nat_abs y * n) here q in
    let is : z ≡ l found.price = k (omega (arith, t, low)) ∙ ap₂ (λ y n. neg_ℤ y *ℤ pos n) here q in
    let scaled = worst_scaled (lost g.means h.variation ps) (price_unit m) found.price (omega (arith, unit_some m r)) worst in
    record {
      some = λ a. subst (λ n. Margin l n (Some found.price)) (ap centavos (sym is)) (margin_some l found.price scaled (omega (arith, ints)));
      none = λ a. margin_none l found.price scaled (omega (arith, ints));
    }

pub returns-then-loss-gt0 : goal.returns-then-loss-gt0
returns-then-loss-gt0 g c =
    let held = c.args.self.now in
    let found = c.worst-found.result in
    let f : SFits w64 found.gain = search rules in
    let o = c.exact_loss-loss.type_inv in
    let y = to_z-of_z w64 c.exact_loss-loss.result (omega (arith, ints)) in
    let t = c.if-loss-gt0.true in
    let a = answered g.met.K.Kind.lawful held found c.worst-found.ensures.finds c.worst-found.ensures.worst _ _ _ (to_z-of_z w64 found.gain f) c.price_unit.ensures c.exact_loss-loss.ensures in
    subst (λ n. Margin (loss g.K.Kind.means held.variation (price_unit held.market.numbers) held.positions.now) n (Some found.price)) (sym (c.centavos.ensures ∙ ap centavos y)) (a.some (omega (arith, ints)))

pub returns-else-loss-gt0 : goal.returns-else-loss-gt0
returns-else-loss-gt0 g c =
    let found = c.worst-found.result in
    let f : SFits w64 found.gain = search rules in
    let o = c.exact_loss-loss.type_inv in
    let y = to_z-of_z w64 c.exact_loss-loss.result (omega (arith, ints)) in
    let t = c.if-loss-gt0.false in
    let a = answered g.met.K.Kind.lawful c.args.self.now found c.worst-found.ensures.finds c.worst-found.ensures.worst _ _ _ (to_z-of_z w64 found.gain f) c.price_unit.ensures c.exact_loss-loss.ensures in
    a.none (omega (arith, ints))
