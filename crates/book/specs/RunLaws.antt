-- What holds of every run of a tally that is kept.
use Rattle.std.specs.Prelude.{◌≡◌, ℕ, ◌*◌, ◌≤◌, cond, List, [], ◌∷◌, length, take, ℤ, pos, ◌+ℤ◌, ◌≤ℤ◌, Ok, Err, Result}
use Rattle.kinds.specs.Kinds.{Meaning}
use Rattle.book.specs.declared.refusal.Refusal.{Refusal}
use Rattle.book.specs.declared.call.Call.{Call}
use Rattle.book.specs.declared.call.Call.TheVariants as call
use Rattle.book.specs.declared.call.Answer.{Answer}
use Rattle.book.specs.declared.call.Answer.TheVariants.{Done, Minimum, Required}
use Rattle.book.specs.Losses.{sold}
use Rattle.book.specs.Markets.{unit_margin, value_unit}
use Rattle.book.specs.Prices.{Margin, Least, Covers, CoversBoth, centavos}
use Rattle.book.specs.Runs.{loss_of, Step, Run}
use Rattle.book.specs.Scenarios.{scenario_losses}
use Rattle.book.specs.Trades.{net_in}
use Rattle.book.specs.Tallies.{Tally, Kept, Valid}

-- The margins of a tally t: the minimum margin is the least number of centavos that covers the protected loss at every whole price, and never passes the
-- unit minimum margins of all single contracts held sold, summed and rounded up; the required margin covers every scenario too.
abbrev pub Answers : {C : Type 0} → Meaning C → Tally C → Call C → Result Answer Refusal → Type 0
Answers K t call.Minimum (Ok (Minimum n at)) = Margin (loss_of K t) n at × (n ≤ centavos (pos (sold t.positions * unit_margin t.market)))
Answers K t (call.Required s table) (Ok (Required n)) = Least (CoversBoth (loss_of K t) (scenario_losses (value_unit t.market) t.positions s table.now)) n
Answers K t c r = Unit {0}

-- The least number that covers the protected loss before and after a trade of q contracts: a sale does not lower it, a purchase does not raise it.
abbrev pub Moves : {C : Type 0} → Meaning C → ℤ → Tally C → Tally C → Type 0
Moves K q t u = (m n : ℕ) → Least (Covers (loss_of K t)) m → Least (Covers (loss_of K u)) n → (q ≤ℤ pos 0 → m ≤ n) × (pos 0 ≤ℤ q → n ≤ m)

abbrev pub Effects : {C : Type 0} → Meaning C → Tally C → Call C → Tally C → Type 0
Effects K t (call.Trade c q) u = Moves K q t u
Effects K t c u = Unit {0}

-- Each step is what the tally gives, its margins are right, and the tally stays kept.
pub data RightRun {C : Type 0} (K : Meaning C) : Tally C → List (Call C) → List (Result Answer Refusal) → Tally C → Type 0 where
  ends : (t : Tally C) → Kept K t → RightRun K t [] [] t
  goes : (t : Tally C) (c : Call C) (r : Result Answer Refusal) (u : Tally C) (cs : List (Call C)) (rs : List (Result Answer Refusal)) (e : Tally C) → Kept K t → Step K t c r u → Answers K t c r → Effects K t c u → RightRun K u cs rs e → RightRun K t (c ∷ cs) (r ∷ rs) e

abbrev pub RunsRight : {C : Type 0} → Meaning C → Type 0
RunsRight {C} K = (t e : Tally C) (cs : List (Call C)) (rs : List (Result Answer Refusal)) → Kept K t → Run K t cs rs e → RightRun K t cs rs e

-- What the accepted trades of a run add to the net quantity in a contract.
abbrev pub added : {C : Type 0} → Meaning C → C → Call C → Result Answer Refusal → ℤ
added K d (call.Trade c q) (Ok Done) = cond (K.same c d) q (pos 0)
added K d c r = pos 0

abbrev pub all_added : {C : Type 0} → Meaning C → C → List (Call C) → List (Result Answer Refusal) → ℤ
all_added K d [] rs = pos 0
all_added K d (c ∷ cs) [] = pos 0
all_added K d (c ∷ cs) (r ∷ rs) = added K d c r +ℤ all_added K d cs rs

-- Each contract's net quantity is what it was at the start plus the sum of the accepted trades in it.
abbrev pub NetsAddUp : {C : Type 0} → Meaning C → Type 0
NetsAddUp {C} K = (t e : Tally C) (cs : List (Call C)) (rs : List (Result Answer Refusal)) → Run K t cs rs e → (d : C) → net_in K d e.positions ≡ net_in K d t.positions +ℤ all_added K d cs rs

-- A run that keeps every promise: each step is right, net quantities add up, and the tally that it ends with keeps the rules.
pub record LawfulRun {C : Type 0} (K : Meaning C) (t : Tally C) (calls : List (Call C)) (replies : List (Result Answer Refusal)) (u : Tally C) : Type 0 where
  pub steps : RightRun K t calls replies u
  pub nets : (d : C) → net_in K d u.positions ≡ net_in K d t.positions +ℤ all_added K d calls replies
  pub valid : Valid K u

-- A run whose replies stand at the front of a list of places keeps every promise.
abbrev pub RanLawfully : {C : Type 0} → Meaning C → Tally C → List (Call C) → List (Result Answer Refusal) → Tally C → Result (Unit {0}) Refusal → Type 0
RanLawfully K t calls new u (Ok x) = LawfulRun K t calls (take (length calls) new) u
RanLawfully K t calls new u (Err e) = Unit {0}
