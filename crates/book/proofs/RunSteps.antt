-- A run with one call more.
use Rattle.std.proofs.Common.{◌≡◌, ℕ, ◌+◌, ◌<◌, List, [], ◌∷◌, ◌++◌, Result, length, take, get_or}
use Rattle.std.proofs.lemmas.List.{take_more, take_more_set}
use Rattle.std.proofs.Math.ListN.{set}
use Rattle.kinds.specs.Kinds.{Meaning}
use Rattle.book.specs.declared.call.Call.{Call}
use Rattle.book.specs.declared.call.Answer.{Answer}
use Rattle.book.specs.declared.refusal.Refusal.{Refusal}
use Rattle.book.specs.Runs.{Step, Run, none, more}
use Rattle.book.specs.Tallies.{Tally}

module _ {C : Type 0} (K : Meaning C) where
  run_push : (t : Tally C) (cs : List (Call C)) (rs : List (Result Answer Refusal)) (u : Tally C) (c : Call C) (r : Result Answer Refusal) (e : Tally C) → Run K t cs rs u → Step K u c r e → Run K t (cs ++ (c ∷ [])) (rs ++ (r ∷ [])) e
  run_push _ _ _ _ c r e (none t) s = more t c r e [] [] e s (none e)
  run_push _ _ _ _ c r e (more t d q u cs rs w s rest) last = more t d q u (cs ++ (c ∷ [])) (rs ++ (r ∷ [])) e s (run_push u cs rs w c r e rest last)

  -- the call at i is made, and its reply goes to place i
  pub run_next : (t : Tally C) (cs : List (Call C)) (rs : List (Result Answer Refusal)) (i : ℕ) (c : Call C) (u : Tally C) (r : Result Answer Refusal) (e : Tally C) → i < length cs → i < length rs → c ≡ get_or cs i c → Run K t (take i cs) (take i rs) u → Step K u c r e → Run K t (take (i + 1) cs) (take (i + 1) (set rs i r)) e
  run_next t cs rs i c u r e h k q run s = rw (take_more cs i c h, take_more_set rs i r k, ← q) (run_push t (take i cs) (take i rs) u c r e run s)
