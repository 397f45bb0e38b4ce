-- Every book keeps the rules, and every run of one keeps every promise.
use Rattle.std.proofs.Common.{List, Result, arith}
use Rattle.kinds.specs.declared.kind.Kind.{Ghosts}
use Rattle.kinds.specs.Kinds.{Meaning, Lawful}
use Rattle.book.specs.declared.book.Book.{Book}
use Rattle.book.specs.declared.call.Call.{Call}
use Rattle.book.specs.declared.call.Answer.{Answer}
use Rattle.book.specs.declared.refusal.Refusal.{Refusal}
use Rattle.book.specs.RunLaws.{LawfulRun}
use Rattle.book.specs.Runs.{Run}
use Rattle.book.specs.Tallies.{Tally, Kept, Valid, tally_of}
use Rattle.book.proofs.RightRuns.{runs_right, nets_add_up}

-- A book keeps all rules: its type says so.
pub valid : {C : Type 0} {g : Ghosts C} (b : Book C g) → Valid g.means (tally_of b)
valid b = record {
  places_some = b.some;
  places_most = b.most;
  within = omega (arith, b.within, b.positions.ok.0);
  right = b.market.right;
  few = b.few;
  held = b.held;
  kept = record { fitting = b.fitting; distinct = b.distinct };
}

pub lawful : {C : Type 0} (K : Meaning C) → Lawful K → (t u : Tally C) (cs : List (Call C)) (rs : List (Result Answer Refusal)) → Kept K t → Run K t cs rs u → Valid K u → LawfulRun K t cs rs u
lawful K laws t u cs rs k run v = record { steps = runs_right K laws t u cs rs k run; nets = nets_add_up K laws t u cs rs run; valid = v }
