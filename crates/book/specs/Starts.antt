-- Starting a book, fresh or from a sheet, and running a list of calls: the whole promise.
use Rattle.std.specs.Prelude.{◌≡◌, ℕ, cond, List, [], length, take, drop, Some, None, Ok, Err, Option, Result, nat_lt}
use Rattle.std.specs.Option.{option_map}
use Rattle.kinds.specs.declared.kind.Kind.{Ghosts}
use Rattle.kinds.specs.Kinds.{Meaning}
use Rattle.sheet.specs.StoredKinds.{Storing}
use Rattle.sheet.specs.declared.fault.Fault.TheVariants as fault
use Rattle.sheet.specs.declared.fault.BookCause.TheVariants as book_cause
use Rattle.book.specs.declared.book.Book.{Book}
use Rattle.book.specs.declared.call.Call.{Call}
use Rattle.book.specs.declared.call.Answer.{Answer}
use Rattle.book.specs.declared.market.Market.{Market}
use Rattle.book.specs.declared.places.Places.{Places}
use Rattle.book.specs.declared.refusal.Refusal.{Refusal}
use Rattle.book.specs.declared.refusal.Refusal.TheVariants as refusal
use Rattle.book.specs.declared.start.Start.{Start}
use Rattle.book.specs.declared.start.Start.TheVariants.{Fresh, Sheet}
use Rattle.book.specs.Markets.{outside}
use Rattle.book.specs.RunLaws.{LawfulRun}
use Rattle.book.specs.SheetReading.{lines_fault, tally_told}
use Rattle.book.specs.Tallies.{Tally, tally_of, or_else, open_refusal}

-- A fresh book holds no position.
abbrev pub fresh : {C : Type 0} → ℕ → Market → Tally C
fresh places m = record { places = places; market = m; positions = [] }

-- A sheet is read into a new book: its length is tried, then the places, then its lines.
abbrev pub sheet_refusal : {C : Type 0} → Meaning C → Storing C → ℕ → List ℕ → Option Refusal
sheet_refusal K s places bs =
    cond (nat_lt 65536 (length bs)) (Some (refusal.Sheet (fault.Book 0 book_cause.TooLong)))
    (cond (outside places 1 128) (Some refusal.Places)
    (option_map (λ f. refusal.Sheet f) (lines_fault K s places bs)))

abbrev pub start_refusal : {C : Type 0} → Meaning C → Storing C → ℕ → Start → Option Refusal
start_refusal K s places (Fresh m) = open_refusal places m
start_refusal K s places (Sheet bs) = sheet_refusal K s places bs.now

-- The tally that a book starts with.
abbrev pub start_tally : {C : Type 0} → Storing C → ℕ → Start → Tally C
start_tally s places (Fresh m) = fresh places m
start_tally s places (Sheet bs) = tally_told s places bs.now

-- Too few places for the replies.
abbrev pub replies_refusal : {C : Type 0} → List (Call C) → List (Result Answer Refusal) → Option Refusal
replies_refusal calls replies = cond (nat_lt (length replies) (length calls)) (Some (refusal.Buffer (length calls))) None

-- A book was started with the tally t and ran the calls: every promise of a run holds, and the replies stand at the front of
-- their places; or it was turned away by the first cause of the start, or else by too few places for the replies: the book's places are handed
-- back with their count, and the replies are as they were.
abbrev pub Started : {C : Type 0} {g : Ghosts C} → Meaning C → ℕ → Option Refusal → Tally C → List (Call C) → List (Result Answer Refusal) → List (Result Answer Refusal) → Result (Book C g) (Refusal × Places C g) → Type 0
Started K count why t calls old new (Ok b) =
    (or_else why (replies_refusal calls old) ≡ None) × LawfulRun K t calls (take (length calls) new) (tally_of b) × (drop (length calls) new ≡ drop (length calls) old)
Started K count why t calls old new (Err e) = (or_else why (replies_refusal calls old) ≡ Some e.0) × (e.1.count ≡ count) × (new ≡ old)
