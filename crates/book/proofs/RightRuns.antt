-- Every run of a kept tally is right, and its trades add up.
use Rattle.std.proofs.Common.{◌≡◌, ℕ, ◌*◌, ◌≤◌, None, Ok, Err, Result, ℤ, pos, ◌+ℤ◌, sym, ap, ◌∙◌, subst, mul_assoc, arith}
use borrow.Author.Differences.{ints}
use Rattle.kinds.specs.Kinds.{Meaning, Lawful}
use Rattle.book.specs.declared.call.Call.{Call}
use Rattle.book.specs.declared.call.Call.TheVariants as call
use Rattle.book.specs.declared.call.Answer.{Answer}
use Rattle.book.specs.declared.call.Answer.TheVariants.{Done, Minimum, Required}
use Rattle.book.specs.declared.refusal.Refusal.{Refusal}
use Rattle.book.specs.Losses.{sold}
use Rattle.book.specs.Markets.{variation_of, price_unit, unit_margin}
use Rattle.book.specs.Prices.{Least, Covers, centavos}
use Rattle.book.specs.RunLaws.{Answers, Effects, Moves, ends, goes, RunsRight, added, NetsAddUp}
use Rattle.book.specs.Runs.{loss_of, call_refusal, after_call, Step, none, more}
use Rattle.book.specs.Tallies.{Tally, Kept, holding}
use Rattle.book.specs.Trades.{traded, net_in}
use Rattle.book.proofs.KeptTallies.{trades_keep, changes_keep, trades_add_up}
use Rattle.book.proofs.MarginAnswers.{sold_bounds}
use Rattle.book.proofs.TradeEffects.{sales_raise, purchases_lower}

module _ {C : Type 0} (K : Meaning C) (laws : Lawful K) where
  -- a call that is not turned away keeps the tally
  after_keeps : (t : Tally C) (c : Call C) → Kept K t → call_refusal K t c ≡ None → Kept K (after_call K t c)
  after_keeps t (call.Trade c q) k h = trades_keep K t c q k h
  after_keeps t (call.Change m) k h = changes_keep K t m k h
  after_keeps t call.Minimum k h = k
  after_keeps t (call.Required n table) k h = k

  -- and so does every step
  keeps : (t : Tally C) (c : Call C) (r : Result Answer Refusal) (u : Tally C) → Kept K t → Step K t c r u → Kept K u
  keeps t c (Ok a) u k s = subst (Kept K) (sym s.1) (after_keeps t c k s.0)
  keeps t c (Err e) u k s = subst (Kept K) (sym s.1) k

  -- the least covering number stays below what the contracts held sold can lose
  bounded : (t : Tally C) (n : ℕ) → Kept K t → Least (Covers (loss_of K t)) n → n ≤ centavos (pos (sold t.positions * unit_margin t.market))
  bounded t n k l =
      let v = variation_of t.market in
      let b = sold_bounds K laws v t.market.ceiling (price_unit t.market) t.positions k.fitting n l in
      subst (λ m. n ≤ centavos (pos m)) (mul_assoc (sold t.positions) v (price_unit t.market)) b

  answers : (t : Tally C) (c : Call C) (r : Result Answer Refusal) (u : Tally C) → Kept K t → Step K t c r u → Answers K t c r
  answers t call.Minimum (Ok (Minimum n at)) u k s = (s.2 k, bounded t n k (s.2 k).covers)
  answers t (call.Required m table) (Ok (Required n)) u k s = s.2 k
  answers t c r u k s = tt

  stays : (t : Tally C) (q : ℤ) → Moves K q t t
  stays t q m n a b = (λ _. a.least n b.holds, λ _. b.least m a.holds)

  traded_moves : (t : Tally C) (c : C) (q : ℤ) → Moves K q t (holding t (traded K c q t.positions))
  traded_moves t c q m n a b =
      let v = variation_of t.market in
      let p = price_unit t.market in
      (λ h. sales_raise K v p t.positions c q h m n a b, λ h. purchases_lower K v p t.positions c q h m n a b)

  effects : (t : Tally C) (c : Call C) (r : Result Answer Refusal) (u : Tally C) → Step K t c r u → Effects K t c u
  effects t (call.Trade c q) (Ok a) u s = subst (Moves K q t) (sym s.1) (traded_moves t c q)
  effects t (call.Trade c q) (Err e) u s = subst (Moves K q t) (sym s.1) (stays t q)
  effects t c r u s = tt

  pub runs_right : RunsRight K
  runs_right _ _ _ _ k (none t) = ends t k
  runs_right _ _ _ _ k (more t c r u cs rs e s rest) = goes t c r u cs rs e k s (answers t c r u k s) (effects t c r u s) (runs_right u e cs rs (keeps t c r u k s) rest)

  -- what leaves the positions adds nothing
  adds_none : (d : C) (t u : Tally C) → u.positions ≡ t.positions → net_in K d u.positions ≡ net_in K d t.positions +ℤ pos 0
  adds_none d t u e = let h = ap (net_in K d) e in omega (arith, ints, h)

  -- one step adds what its trade adds
  step_adds : (d : C) (t : Tally C) (c : Call C) (r : Result Answer Refusal) (u : Tally C) → Step K t c r u → net_in K d u.positions ≡ net_in K d t.positions +ℤ added K d c r
  step_adds d t (call.Trade c q) (Ok Done) u s = ap (λ w. net_in K d w.positions) s.1 ∙ trades_add_up K laws t.positions c d q
  step_adds d t (call.Trade c q) (Ok (Minimum n at)) u s = absurd s.2
  step_adds d t (call.Trade c q) (Ok (Required n)) u s = absurd s.2
  step_adds d t (call.Trade c q) (Err e) u s = adds_none d t u (ap (λ w. w.positions) s.1)
  step_adds d t c (Ok a) u s = adds_none d t u (ap (λ w. w.positions) s.1)
  step_adds d t c (Err e) u s = adds_none d t u (ap (λ w. w.positions) s.1)

  pub nets_add_up : NetsAddUp K
  nets_add_up _ _ _ _ (none t) d = omega (arith, ints)
  nets_add_up _ _ _ _ (more t c r u cs rs e s rest) d =
      let a = step_adds d t c r u s in
      let b = nets_add_up u e cs rs rest d in
      omega (arith, ints, a, b)
