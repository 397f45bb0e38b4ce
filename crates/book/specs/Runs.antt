-- Runs: a list of calls with their replies, as the tally gives them.
use Rattle.std.specs.Prelude.{◌≡◌, ℕ, ◌<◌, ◌≤◌, List, [], ◌∷◌, length, take, drop, ℤ, Some, None, Ok, Err, Option, Result}
use Rattle.kinds.specs.Kinds.{Meaning}
use Rattle.book.specs.declared.refusal.Refusal.{Refusal}
use Rattle.book.specs.declared.refusal.Refusal.TheVariants.{Buffer}
use Rattle.book.specs.declared.call.Call.{Call}
use Rattle.book.specs.declared.call.Call.TheVariants as call
use Rattle.book.specs.declared.call.Answer.{Answer}
use Rattle.book.specs.declared.call.Answer.TheVariants.{Done, Minimum, Required}
use Rattle.book.specs.Losses.{loss}
use Rattle.book.specs.Markets.{variation_of, price_unit, value_unit}
use Rattle.book.specs.Prices.{Margin, Least, CoversBoth}
use Rattle.book.specs.Scenarios.{required_refusal, scenario_losses}
use Rattle.book.specs.Tallies.{Tally, Kept, holding, in_market, trade_refusal, change_refusal}
use Rattle.book.specs.Trades.{traded}

-- The protected loss of a tally at each whole price.
abbrev pub loss_of : {C : Type 0} → Meaning C → Tally C → ℕ → ℤ
loss_of K t = loss K (variation_of t.market) (price_unit t.market) t.positions

-- The first cause that turns a call away. The minimum question has none.
abbrev pub call_refusal : {C : Type 0} → Meaning C → Tally C → Call C → Option Refusal
call_refusal K t (call.Trade c q) = trade_refusal K t c q
call_refusal K t (call.Change m) = change_refusal K t m
call_refusal K t call.Minimum = None
call_refusal K t (call.Required s table) = required_refusal t s table.now

-- The tally after a call that is not turned away: a question leaves it.
abbrev pub after_call : {C : Type 0} → Meaning C → Tally C → Call C → Tally C
after_call K t (call.Trade c q) = holding t (traded K c q t.positions)
after_call K t (call.Change m) = in_market t m
after_call K t call.Minimum = t
after_call K t (call.Required s table) = t

-- What a call answers that is not turned away: the margins for a tally that is kept.
abbrev pub Answered : {C : Type 0} → Meaning C → Tally C → Call C → Answer → Type 0
Answered K t (call.Trade c q) Done = Unit {0}
Answered K t (call.Change m) Done = Unit {0}
Answered K t call.Minimum (Minimum n at) = Kept K t → Margin (loss_of K t) n at
Answered K t (call.Required s table) (Required n) = Kept K t → Least (CoversBoth (loss_of K t) (scenario_losses (value_unit t.market) t.positions s table.now)) n
Answered K t c a = ⊥

-- One call: done, or turned away by the first cause that holds, with nothing changed.
abbrev pub Step : {C : Type 0} → Meaning C → Tally C → Call C → Result Answer Refusal → Tally C → Type 0
Step K t c (Ok a) t' = (call_refusal K t c ≡ None) × (t' ≡ after_call K t c) × Answered K t c a
Step K t c (Err e) t' = (call_refusal K t c ≡ Some e) × (t' ≡ t)

-- Calls one after another.
pub data Run {C : Type 0} (K : Meaning C) : Tally C → List (Call C) → List (Result Answer Refusal) → Tally C → Type 0 where
  none : (t : Tally C) → Run K t [] [] t
  more : (t : Tally C) (c : Call C) (r : Result Answer Refusal) (u : Tally C) (cs : List (Call C)) (rs : List (Result Answer Refusal)) (e : Tally C) → Step K t c r u → Run K u cs rs e → Run K t (c ∷ cs) (r ∷ rs) e

-- The run of a list of calls whose replies go to the front of a list of places.
abbrev pub Ran : {C : Type 0} → Meaning C → Tally C → List (Call C) → List (Result Answer Refusal) → List (Result Answer Refusal) → Tally C → Result (Unit {0}) Refusal → Type 0
Ran K t calls old new u (Ok x) = (length calls ≤ length old) × Run K t calls (take (length calls) new) u × (drop (length calls) new ≡ drop (length calls) old)
Ran K t calls old new u (Err e) = (length old < length calls) × (e ≡ Buffer (length calls)) × (new ≡ old) × (u ≡ t)
