-- What a sheet tells, line by line from the top, and the first fault in it. K and s are the meaning and the storing of its kind.
use Rattle.std.specs.Prelude.{◌≡◌, ℕ, zero, suc, ◌+◌, ◌*◌, Bool, cond, not, List, [], ◌++◌, length, drop, map, ℤ, Some, None, Ok, Err, Option, Result, ◌==◌, nat_lt, slice_index_or, unsigned_abs}
use Rattle.std.specs.Option.{option_map, option_to_list}
use Rattle.std.specs.List.{list_any}
use Rattle.kinds.specs.declared.contract_refusal.ContractRefusal.{ContractRefusal}
use Rattle.kinds.specs.Kinds.{Meaning}
use Rattle.sheet.specs.declared.form.Form.{Form}
use Rattle.sheet.specs.declared.form.Word.TheVariants as word
use Rattle.sheet.specs.declared.market_number.MarketNumber.{MarketNumber}
use Rattle.sheet.specs.declared.market_number.MarketNumber.TheVariants as market_number
use Rattle.sheet.specs.MarketNumbers.{market_place}
use Rattle.sheet.specs.declared.fault.LineCause.TheVariants as line_cause
use Rattle.sheet.specs.declared.fault.BookCause.TheVariants as book_cause
use Rattle.sheet.specs.declared.fault.Fault.{Fault}
use Rattle.sheet.specs.declared.fault.Fault.TheVariants as fault
use Rattle.sheet.specs.declared.reader.Reader.{Reader}
use Rattle.sheet.specs.Cuts.{before, after, fields}
use Rattle.sheet.specs.Decimals.{read_on, quantity_of}
use Rattle.sheet.specs.Forms.{head_forms, well_formed, fault_field}
use Rattle.sheet.specs.ReadLines.{number_forms}
use Rattle.sheet.specs.StoredKinds.{ContractText, Storing, position_forms}
use Rattle.book.specs.declared.market.Market.{Market}
use Rattle.book.specs.declared.position.Position.{Position}
use Rattle.book.specs.declared.refusal.Refusal.{Refusal}
use Rattle.book.specs.declared.refusal.Refusal.TheVariants.{Sheet}
use Rattle.book.specs.Losses.{gross}
use Rattle.book.specs.Markets.{outside, variation_of}
use Rattle.book.specs.Tallies.{Tally}

-- The bytes after the first line, and after n lines.
abbrev pub past : Option (List ℕ) → List ℕ
past None = []
past (Some bs) = bs

abbrev pub after_lines : ℕ → List ℕ → List ℕ
after_lines zero bs = bs
after_lines (suc n) bs = after_lines n (past (after 10 bs))

-- The field after k fields of the first line.
abbrev pub field_at : ℕ → List ℕ → List ℕ
field_at k bs = slice_index_or (fields (before 10 bs)) k []

-- The number that the line after n lines writes in its first field.
abbrev pub number_at : ℕ → List ℕ → ℕ
number_at n bs = read_on 0 (field_at 0 (after_lines n bs))

abbrev pub market_told : List ℕ → Market
market_told bs = record { ceiling = number_at 1 bs; reference = number_at 2 bs; factor = number_at 3 bs; size = number_at 4 bs; rate = number_at 5 bs }

-- The number of a head.
abbrev pub head_number : List ℕ → ℕ
head_number bs = read_on 0 (field_at 1 bs)

-- How many positions the second head tells.
abbrev pub count_told : List ℕ → ℕ
count_told bs = head_number (after_lines 6 bs)

-- The contract and the quantity of a position line.
abbrev pub text_at : Option Form → List ℕ → ContractText
text_at None bs = record { side = field_at 0 bs; strike = field_at 1 bs; limiter = None }
text_at (Some form) bs = record { side = field_at 0 bs; strike = field_at 1 bs; limiter = Some (field_at 2 bs) }

abbrev pub quantity_place : Option Form → ℕ
quantity_place None = 2
quantity_place (Some form) = 3

abbrev pub both : {C : Type 0} → Option C → Option ℤ → Option (Position C)
both None q = None
both (Some c) None = None
both (Some c) (Some q) = Some record { contract = c; net = q }

abbrev pub position_told : {C : Type 0} → Storing C → List ℕ → Option (Position C)
position_told s bs = both (s.read (text_at s.limiter_form bs)) (quantity_of (field_at (quantity_place s.limiter_form) bs))

abbrev pub positions_told : {C : Type 0} → Storing C → ℕ → List ℕ → List (Position C)
positions_told s zero bs = []
positions_told s (suc n) bs = option_to_list (position_told s bs) ++ positions_told s n (past (after 10 bs))

-- The tally that a sheet tells, with these places.
abbrev pub tally_told : {C : Type 0} → Storing C → ℕ → List ℕ → Tally C
tally_told s places bs = record { places = places; market = market_told bs; positions = positions_told s (count_told bs) (after_lines 7 bs) }

-- The first fault of two.
abbrev pub or_fault : Option Fault → Option Fault → Option Fault
or_fault None o = o
or_fault (Some f) o = Some f

-- The first line is not of these forms.
abbrev pub malformed : ℕ → List Form → List ℕ → Option Fault
malformed line forms bs = cond (well_formed forms bs) None (Some (fault.Field line (fault_field forms bs)))

abbrev pub when : Bool → Fault → Option Fault
when b f = cond b (Some f) None

-- A line with one of the market's numbers.
abbrev pub number_fault : ℕ → MarketNumber → ℕ → ℕ → List ℕ → Option Fault
number_fault line which low high bs =
    or_fault (malformed line number_forms bs) (when (outside (read_on 0 (field_at 0 bs)) low high) (fault.Line line (line_cause.MarketNumber (market_place which))))

-- Ceiling × size × rate is too large.
abbrev pub product_fault : ℕ → Market → Option Fault
product_fault line m = when (nat_lt 5000000000000 (m.ceiling * m.size * m.rate)) (fault.Book line book_cause.Product)

abbrev pub market_fault : List ℕ → Option Fault
market_fault bs =
    or_fault (malformed 1 (head_forms word.Market) bs)
    (or_fault (number_fault 2 market_number.Ceiling 1 20000000 (after_lines 1 bs))
    (or_fault (number_fault 3 market_number.Reference 1 (number_at 1 bs) (after_lines 2 bs))
    (or_fault (number_fault 4 market_number.Factor 0 10000 (after_lines 3 bs))
    (or_fault (number_fault 5 market_number.Size 1 1000 (after_lines 4 bs))
    (or_fault (number_fault 6 market_number.Rate 1 99999 (after_lines 5 bs))
    (product_fault 6 (market_told bs)))))))

-- The line with the head of the positions.
abbrev pub head_fault : ℕ → ℕ → List ℕ → Option Fault
head_fault line places bs =
    or_fault (malformed line (head_forms word.Positions) bs) (when (nat_lt places (head_number bs)) (fault.Book line book_cause.Places))

-- The contracts of positions, in their order.
abbrev pub contracts_of : {C : Type 0} → List (Position C) → List C
contracts_of ps = map (λ p. p.contract) ps

-- The contract is one of these.
abbrev pub named : {C : Type 0} → Meaning C → C → List C → Bool
named K c seen = list_any (λ d. K.same d c) seen

-- A contract that is not made.
abbrev pub contract_fault : ℕ → Option ContractRefusal → Option Fault
contract_fault line r = option_map (λ e. fault.Line line (line_cause.Contract e)) r

-- What is wrong with a position by its own numbers, and in a market m.
abbrev pub own_fault : {C : Type 0} → Meaning C → Storing C → Market → ℕ → Position C → Option Fault
own_fault K s m line p =
    or_fault (contract_fault line (s.refusal p.contract))
    (or_fault (when (outside (unsigned_abs p.net) 1 10000) (fault.Line line line_cause.Quantity))
    (when (not (K.fits p.contract (variation_of m) m.ceiling)) (fault.Book line book_cause.DoesNotFit)))

-- What is wrong with it below positions in these contracts, so many in all.
abbrev pub joined_fault : {C : Type 0} → Meaning C → Storing C → Market → ℕ → ℕ → List C → Position C → Option Fault
joined_fault K s m line contracts seen p =
    or_fault (own_fault K s m line p)
    (or_fault (when (nat_lt 10000 (contracts + unsigned_abs p.net)) (fault.Book line book_cause.Contracts))
    (when (named K p.contract seen) (fault.Book line book_cause.NamedTwice)))

abbrev pub position_fault : {C : Type 0} → Meaning C → Storing C → Market → ℕ → List (Position C) → Option (Position C) → Option Fault
position_fault K s m line above None = None
position_fault K s m line above (Some p) = joined_fault K s m line (gross above) (contracts_of above) p

-- The position lines from this one on, n of them, and then the end of the sheet.
abbrev pub positions_fault : {C : Type 0} → Meaning C → Storing C → Market → ℕ → ℕ → List (Position C) → List ℕ → Option Fault
positions_fault K s m zero line above bs = when (not (length bs == 0)) (fault.Field line 1)
positions_fault K s m (suc n) line above bs =
    or_fault (malformed line (position_forms s.limiter_form) bs)
    (or_fault (position_fault K s m line above (position_told s bs))
    (positions_fault K s m n (suc line) (above ++ option_to_list (position_told s bs)) (past (after 10 bs))))

-- The first fault of a sheet's lines.
abbrev pub lines_fault : {C : Type 0} → Meaning C → Storing C → ℕ → List ℕ → Option Fault
lines_fault K s places bs =
    or_fault (market_fault bs)
    (or_fault (head_fault 7 places (after_lines 6 bs))
    (positions_fault K s (market_told bs) (count_told bs) 8 [] (after_lines 7 bs)))

-- A sheet above 65,536 bytes.
abbrev pub length_fault : List ℕ → Option Fault
length_fault bs = when (nat_lt 65536 (length bs)) (fault.Book 0 book_cause.TooLong)

-- The first fault of a sheet that is read into a book with these places.
abbrev pub sheet_fault : {C : Type 0} → Meaning C → Storing C → ℕ → List ℕ → Option Fault
sheet_fault K s places bs = or_fault (length_fault bs) (lines_fault K s places bs)

-- The bytes that the reader has before it.
abbrev pub unread : Reader → List ℕ
unread r = drop r.at r.sheet.now

-- There is no fault, and P holds of what was found; or the first fault is told.
abbrev pub Tested : {X : Type 0} → Option Fault → (X → Type 0) → Result X Fault → Type 0
Tested first P (Ok x) = (first ≡ None) × P x
Tested first P (Err e) = first ≡ Some e

-- There is no fault, or the first is told.
abbrev pub Checked : Option Fault → Result (Unit {0}) Fault → Type 0
Checked first r = Tested first (λ x. Unit {0}) r

-- The reader stands n lines further, behind lines that tell x.
pub record WentOn {X : Type 0} (n : ℕ) (Tells : List ℕ → X → Type 0) (old new : Reader) (x : X) : Type 0 where
  pub tells : Tells (unread old) x
  pub at : unread new ≡ after_lines n (unread old)
  pub lines : new.lines ≡ old.lines + n

-- n lines were read: they tell something, or their first fault is told, by the number of the first line and the bytes from there on. The reader keeps its sheet.
pub record ReadOn {X : Type 0} (n : ℕ) (fault : ℕ → List ℕ → Option Fault) (Tells : List ℕ → X → Type 0) (old new : Reader) (r : Result X Fault) : Type 0 where
  pub same : new.sheet.now ≡ old.sheet.now
  pub told : Tested (fault (old.lines + 1) (unread old)) (WentOn n Tells old new) r

-- Lines were checked by a reader, which keeps its sheet.
pub record CheckedOn (first : Option Fault) (old new : Reader) (r : Result (Unit {0}) Fault) : Type 0 where
  pub same : new.sheet.now ≡ old.sheet.now
  pub told : Checked first r

-- Reading replaces market and positions by those that the sheet tells, or names its first fault and changes nothing.
abbrev pub SheetRead : {C : Type 0} → Meaning C → Storing C → List ℕ → Tally C → Tally C → Result (Unit {0}) Refusal → Type 0
SheetRead K s bs old new (Ok x) = (sheet_fault K s old.places bs ≡ None) × (new ≡ tally_told s old.places bs)
SheetRead K s bs old new (Err e) = (option_map (λ f. Sheet f) (sheet_fault K s old.places bs) ≡ Some e) × (new ≡ old)
