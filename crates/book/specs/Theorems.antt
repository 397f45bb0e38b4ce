-- What is proved of every kind of contract that keeps the rules, and of listed and flexible books, as statements that a function's contract can name.
-- In all of them v is the variation, u the ceiling, scale the exact units for one hundredth of a point of one contract,
-- and ps the positions of a book.
use Rattle.std.specs.Prelude.{◌≡◌, ℕ, ◌*◌, ◌≤◌, cond, List, [], ◌∷◌, map, ℤ, pos, ◌+ℤ◌, ◌*ℤ◌, neg_ℤ, ◌≤ℤ◌, None, fold, Option}
use Rattle.std.specs.Int.{int_max}
use Rattle.std.specs.List.{AllByRecursion}
use Rattle.book.specs.declared.position.Position.{Position}
use Rattle.kinds.specs.Kinds.{Meaning}
use Rattle.kinds.specs.declared.listed.Listed.{Listed}
use Rattle.kinds.specs.declared.flexible.Flexible.{Flexible}
use Rattle.kinds.specs.ListedOptions.{listed}
use Rattle.kinds.specs.FlexibleOptions.{flexible}
use Rattle.book.specs.CircularSteps.{protected_portfolio, circular_minimum, scenario_values, circular_required}
use Rattle.book.specs.Scenarios.{scenario_losses}
use Rattle.book.specs.Prices.{Ahead, Worst, Covers, CoversBoth, Exact, Least, Margin, centavos}
use Rattle.book.specs.Losses.{loss, corners, Fitting, sold}
use Rattle.book.specs.LimiterSteps.{settled_value}
use Rattle.book.specs.Markets.{variation_of, price_unit, value_unit}
use Rattle.book.specs.Runs.{loss_of}
use Rattle.book.specs.Trades.{traded, net_in}
use Rattle.book.specs.Tallies.{Tally, Kept, holding, in_market, trade_refusal, change_refusal}
use Rattle.book.specs.declared.market.Market.{Market}

-- What bounds the loss at price 0 and at the corners bounds it at every whole price.
abbrev pub CornersBound : {C : Type 0} → Meaning C → Type 0
CornersBound {C} K =
    (v u scale : ℕ) (ps : List (Position C)) → Fitting K v u ps →
    (most : ℤ) → AllByRecursion (λ c. loss K v scale ps c ≤ℤ most) (0 ∷ corners K v ps) → (x : ℕ) → loss K v scale ps x ≤ℤ most

-- A price that stands ahead of price 0 and of the corners is the lowest of all whole prices at which the loss is greatest.
abbrev pub CornersSuffice : {C : Type 0} → Meaning C → Type 0
CornersSuffice {C} K =
    (v u scale : ℕ) (ps : List (Position C)) → Fitting K v u ps →
    (p : ℕ) → AllByRecursion (Ahead (loss K v scale ps) p) (0 ∷ corners K v ps) → Worst (loss K v scale ps) p

-- There is one answer to the margin question.
abbrev pub OneMargin : Type 0
OneMargin = (f : ℕ → ℤ) (m n : ℕ) (a b : Option ℕ) → Margin f m a → Margin f n b → (m ≡ n) × (a ≡ b)

-- No sale lowers the margin.
abbrev pub SalesRaise : {C : Type 0} → Meaning C → Type 0
SalesRaise {C} K =
    (v scale : ℕ) (ps : List (Position C)) (c : C) (q : ℤ) → q ≤ℤ pos 0 →
    (m n : ℕ) → Least (Covers (loss K v scale ps)) m → Least (Covers (loss K v scale (traded K c q ps))) n → m ≤ n

-- No purchase raises it.
abbrev pub PurchasesLower : {C : Type 0} → Meaning C → Type 0
PurchasesLower {C} K =
    (v scale : ℕ) (ps : List (Position C)) (c : C) (q : ℤ) → pos 0 ≤ℤ q →
    (m n : ℕ) → Least (Covers (loss K v scale ps)) m → Least (Covers (loss K v scale (traded K c q ps))) n → n ≤ m

-- It never passes the unit minimum margins of all contracts held sold, summed and rounded up.
abbrev pub SoldBounds : {C : Type 0} → Meaning C → Type 0
SoldBounds {C} K =
    (v u scale : ℕ) (ps : List (Position C)) → Fitting K v u ps →
    (m : ℕ) → Least (Covers (loss K v scale ps)) m → m ≤ centavos (pos (sold ps * v * scale))

-- The greatest of zero and the losses at price 0 and at the corners, rounded up, is that least number.
abbrev pub CornerFormula : {C : Type 0} → Meaning C → Type 0
CornerFormula {C} K =
    (v u scale : ℕ) (ps : List (Position C)) → Fitting K v u ps →
    Least (Covers (loss K v scale ps)) (centavos (fold int_max (pos 0) (map (loss K v scale ps) (0 ∷ corners K v ps))))

-- An accepted trade keeps what a tally keeps of its kind.
abbrev pub TradesKeep : {C : Type 0} → Meaning C → Type 0
TradesKeep {C} K = (t : Tally C) (c : C) (q : ℤ) → Kept K t → trade_refusal K t c q ≡ None → Kept K (holding t (traded K c q t.positions))

-- And so does an accepted market change.
abbrev pub ChangesKeep : {C : Type 0} → Meaning C → Type 0
ChangesKeep {C} K = (t : Tally C) (m : Market) → Kept K t → change_refusal K t m ≡ None → Kept K (in_market t m)

-- A trade adds its quantity to the net quantity in its contract, and to no other.
abbrev pub TradesAddUp : {C : Type 0} → Meaning C → Type 0
TradesAddUp {C} K = (ps : List (Position C)) (c d : C) (q : ℤ) → net_in K d (traded K c q ps) ≡ net_in K d ps +ℤ cond (K.same c d) q (pos 0)

-- Price 0, which the circular leaves out, never raises the greatest loss.
abbrev pub ZeroNeverRaises : {C : Type 0} → Meaning C → Type 0
ZeroNeverRaises {C} K =
    (v u scale : ℕ) (ps : List (Position C)) → Fitting K v u ps →
    (most : ℤ) → pos 0 ≤ℤ most → AllByRecursion (λ c. loss K v scale ps c ≤ℤ most) (corners K v ps) → loss K v scale ps 0 ≤ℤ most

-- The circular's minimum margin is, in exact units and rounded up to a centavo, the least that covers the protected loss at
-- every whole price.
abbrev pub CircularMinimum : Type 0
CircularMinimum =
    (v u unit : ℕ) (ps : List (Position Listed)) → Fitting listed v u ps →
    Exact (loss listed v unit ps) [] (circular_minimum unit (protected_portfolio v ps))
    × Least (Covers (loss listed v unit ps)) (centavos (circular_minimum unit (protected_portfolio v ps)))

-- Its required margin is, in exact units and rounded up, the least that also covers the loss in every scenario.
abbrev pub CircularRequired : Type 0
CircularRequired =
    (v u unit value_unit : ℕ) (ps : List (Position Listed)) (scenarios : ℕ) (table : List ℕ) → Fitting listed v u ps →
    Exact (loss listed v unit ps) (scenario_losses value_unit ps scenarios table) (circular_required (circular_minimum unit (protected_portfolio v ps)) (scenario_values value_unit ps scenarios table))
    × Least (CoversBoth (loss listed v unit ps) (scenario_losses value_unit ps scenarios table)) (centavos (circular_required (circular_minimum unit (protected_portfolio v ps)) (scenario_values value_unit ps scenarios table)))

-- So the replies of a listed book that is kept are the circular's figures, rounded up to a centavo.
abbrev pub CircularReplies : Type 0
CircularReplies =
    (t : Tally Listed) → Kept listed t →
    ((n : ℕ) (at : Option ℕ) → Margin (loss_of listed t) n at → n ≡ centavos (circular_minimum (price_unit t.market) (protected_portfolio (variation_of t.market) t.positions)))
    × ((scenarios : ℕ) (table : List ℕ) (n : ℕ) → Least (CoversBoth (loss_of listed t) (scenario_losses (value_unit t.market) t.positions scenarios table)) n → n ≡ centavos (circular_required (circular_minimum (price_unit t.market) (protected_portfolio (variation_of t.market) t.positions)) (scenario_values (value_unit t.market) t.positions scenarios table)))

-- The protected loss of a flexible book is, at every whole price, the one that the limiter's settlement gives.
abbrev pub LimiterLosses : Type 0
LimiterLosses = (t : Tally Flexible) (x : ℕ) → loss_of flexible t x ≡ neg_ℤ (settled_value (variation_of t.market) t.positions x) *ℤ pos (price_unit t.market)
