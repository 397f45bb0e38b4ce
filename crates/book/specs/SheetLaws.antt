-- What holds of every sheet: books that keep the rules and sheets that are accepted are the same, byte for byte.
use Rattle.std.specs.Prelude.{◌≡◌, ℕ, ◌≤◌, List, length, None, Ok, Err, Result}
use Rattle.kinds.specs.Kinds.{Meaning}
use Rattle.sheet.specs.StoredKinds.{Storing}
use Rattle.book.specs.SheetReading.{sheet_fault, tally_told}
use Rattle.book.specs.SheetTexts.{sheet_of}
use Rattle.book.specs.Tallies.{Tally, Valid}

-- The tally with other places.
abbrev pub in_places : {C : Type 0} → Tally C → ℕ → Tally C
in_places t n = record { places = n; market = t.market; positions = t.positions }

-- The sheet of a tally reads back, given places enough, as that tally.
abbrev pub Readable : {C : Type 0} → Meaning C → Storing C → Tally C → Type 0
Readable K s t =
    (places : ℕ) → length t.positions ≤ places →
    (sheet_fault K s places (sheet_of s t) ≡ None) × (tally_told s places (sheet_of s t) ≡ in_places t places)

-- The bytes are the sheet of some tally with these places that keeps the rules.
pub record IsSheet {C : Type 0} (K : Meaning C) (s : Storing C) (places : ℕ) (bs : List ℕ) : Type 0 where
  pub tally : Tally C
  pub valid : Valid K tally
  pub places_are : tally.places ≡ places
  pub bytes_are : sheet_of s tally ≡ bs

-- A sheet was read: the book is the one whose sheet it is, and keeps the rules; or it is the sheet of no such book.
abbrev pub Accepted : {C X E : Type 0} → Meaning C → Storing C → List ℕ → Tally C → Tally C → Result X E → Type 0
Accepted K s bs old new (Ok x) = Valid K new × (sheet_of s new ≡ bs)
Accepted K s bs old new (Err e) = IsSheet K s old.places bs → ⊥
