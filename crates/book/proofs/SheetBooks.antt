-- The sheets of books: what a book reads and writes, by the laws of sheets.
use Rattle.std.proofs.Common.{ℕ, ◌≤◌, List, Ok, Err, Result, sym, ap, ◌∙◌, subst}
use Rattle.std.specs.Option.{option_map}
use Rattle.std.proofs.lemmas.Option.{none-some}
use Rattle.kinds.specs.Kinds.{Meaning}
use Rattle.sheet.specs.StoredKinds.{Storing, Storable}
use Rattle.book.specs.declared.refusal.Refusal.{Refusal}
use Rattle.book.specs.declared.refusal.Refusal.TheVariants.{Sheet}
use Rattle.book.specs.SheetLaws.{Accepted}
use Rattle.book.specs.SheetReading.{SheetRead}
use Rattle.book.specs.SheetTexts.{sheet_of}
use Rattle.book.specs.Tallies.{Tally, Valid}
use Rattle.book.proofs.SheetRoundTrips.{written_back, accepted_valid, accepts_exactly}

module _ {C : Type 0} (K : Meaning C) (s : Storing C) (laws : Storable K s) where
  pub exactly : (bs : List ℕ) (old new : Tally C) (r : Result (Unit {0}) Refusal) → 1 ≤ old.places → old.places ≤ 128 → SheetRead K s bs old new r → Accepted K s bs old new r
  exactly bs old new (Ok x) some most h =
      (subst (Valid K) (sym h.1) (accepted_valid K s laws old.places bs some most h.0), ap (sheet_of s) h.1 ∙ written_back K s laws old.places bs h.0)
  exactly bs old new (Err e) some most h = λ is.
      let none = (accepts_exactly K s laws old.places bs some most).1 is in
      absurd (none-some e (sym (ap (option_map (λ f. Sheet f)) none) ∙ h.0))
