use Rattle.std.proofs.Common.{◌≡◌, cond, List, length, take, Some, None, Ok, Err, MatchResult, Result, sym, ap, ◌∙◌, subst}
use Rattle.std.proofs.lemmas.Bool.{le-ltb, lt-ltb}
use Rattle.kinds.specs.declared.kind.Kind.{Ghosts}
use Rattle.kinds.specs.Kinds.{Meaning}
use Rattle.book.specs.declared.book.Book.{Book}
use Rattle.book.specs.declared.call.Answer.{Answer}
use Rattle.book.specs.declared.call.Call.{Call}
use Rattle.book.specs.declared.places.Places.{Places}
use Rattle.book.specs.declared.refusal.Refusal.{Refusal}
use Rattle.book.specs.declared.refusal.Refusal.TheVariants.{Buffer}
use Rattle.book.specs.RunLaws.{LawfulRun, RanLawfully}
use Rattle.book.specs.Runs.{Ran}
use Rattle.book.specs.Starts.{Started}
use Rattle.book.specs.Tallies.{Tally, tally_of}
use Rattle.book.proofs.book.Book.then_run.Goals as goal

-- A book that ran, or its places.
ran : {C : Type 0} {g : Ghosts C} (K : Meaning C) (t : Tally C) (calls : List (Call C)) (old new : List (Result Answer Refusal)) (u : Book C g) (r : Result (Unit {0}) Refusal) (o : Result (Book C g) (Refusal × Places C g)) → Ran K t calls old new (tally_of u) r → RanLawfully K t calls new (tally_of u) r → MatchResult o (λ b. (r ≡ Ok tt) × (b ≡ u)) (λ e. (r ≡ Err e.0) × (e.1.count ≡ u.places)) → Started K t.places None t calls old new o
ran K t calls old new u (Ok x) (Ok b) h law m =
    (ap (λ c. cond c (Some (Buffer (length calls))) None) (le-ltb (length old) (length calls) h.0), subst (λ v. LawfulRun K t calls (take (length calls) new) (tally_of v)) (sym m.1) law, h.2)
ran K t calls old new u (Ok x) (Err e) h law m = cc
ran K t calls old new u (Err f) (Ok b) h law m = cc
ran K t calls old new u (Err f) (Err e) h law m =
    let same : f ≡ e.0 = cc in
    (ap (λ c. cond c (Some (Buffer (length calls))) None) (lt-ltb (length old) (length calls) h.0) ∙ ap (λ y. Some y) (sym h.1 ∙ same), m.1 ∙ ap (λ v. v.places) h.3, h.2)

pub returns : goal.returns
returns g c =
    ran g.K.Kind.means (tally_of c.args.self) c.args.calls.now c.args.replies.now c.run-done.new.replies c.run-done.new.self c.run-done.result c.or_places.result c.run-done.ensures.ran c.run-done.ensures.law c.or_places.ensures
