-- The tally: a plain list of positions with places and a market, and what each call does to it.
use Rattle.std.specs.Prelude.{◌≡◌, ℕ, ◌<◌, ◌≤◌, true, cond, not, List, length, ℤ, Some, None, Ok, Err, vec_items, Option, Result, nat_lt, slice_index_or, unsigned_abs}
use Rattle.std.specs.List.{position}
use Rattle.std.specs.Option.{option_map}
use Rattle.kinds.specs.declared.kind.Kind.{Ghosts}
use Rattle.kinds.specs.Kinds.{Meaning}
use Rattle.book.specs.declared.book.Book.{Book}
use Rattle.book.specs.declared.market.Market.{Market}
use Rattle.book.specs.declared.position.Position.{Position}
use Rattle.book.specs.declared.refusal.Refusal.{Refusal}
use Rattle.book.specs.declared.refusal.Refusal.TheVariants.{Places, Quantity, DoesNotFit, Contracts, AllPlacesTaken, HeldDoesNotFit, NoPosition, AboveCeiling}
use Rattle.book.specs.Losses.{value, gross, all_held, Fitting, Distinct}
use Rattle.book.specs.Markets.{outside, market_refusal, IsMarket, variation_of}
use Rattle.book.specs.Trades.{traded}

pub record Tally (C : Type 0) : Type 0 where
  pub places : ℕ
  pub market : Market
  pub positions : List (Position C)

abbrev pub tally_of : {C : Type 0} {g : Ghosts C} → Book C g → Tally C
tally_of b = record { places = b.places; market = b.market.numbers; positions = vec_items b.positions }

-- What a tally keeps of its kind: every held contract fits the market, and none is held twice.
pub record Kept {C : Type 0} (K : Meaning C) (t : Tally C) : Type 0 where
  pub fitting : Fitting K (variation_of t.market) t.market.ceiling t.positions
  pub distinct : Distinct K t.positions

-- A tally that keeps all rules of a book.
pub record Valid {C : Type 0} (K : Meaning C) (t : Tally C) : Type 0 where
  pub places_some : 1 ≤ t.places
  pub places_most : t.places ≤ 128
  pub within : length t.positions ≤ t.places
  pub right : IsMarket t.market
  pub few : gross t.positions ≤ 10000
  pub held : all_held t.positions ≡ true
  pub kept : Kept K t

abbrev pub or_else : Option Refusal → Option Refusal → Option Refusal
or_else None o = o
or_else (Some e) o = Some e

-- Opening tries the market, then the places.
abbrev pub open_refusal : ℕ → Market → Option Refusal
open_refusal places market = or_else (market_refusal market) (cond (outside places 1 128) (Some Places) None)

-- The tally with other positions.
abbrev pub holding : {C : Type 0} → Tally C → List (Position C) → Tally C
holding t ps = record { places = t.places; market = t.market; positions = ps }

-- As the book would end: the contracts in all, then the places.
abbrev pub ends_refusal : {C : Type 0} → Tally C → List (Position C) → Option Refusal
ends_refusal t after = cond (nat_lt 10000 (gross after)) (Some Contracts) (cond (nat_lt t.places (length after)) (Some AllPlacesTaken) None)

-- A trade tries the quantity, fitting, and how the book would end.
abbrev pub trade_refusal : {C : Type 0} → Meaning C → Tally C → C → ℤ → Option Refusal
trade_refusal K t c q =
    cond (outside (unsigned_abs q) 1 10000) (Some Quantity)
    (cond (not (K.fits c (variation_of t.market) t.market.ceiling)) (Some DoesNotFit)
    (ends_refusal t (traded K c q t.positions)))

-- A call is turned away by this cause and changes nothing, or there is none and it is done.
abbrev pub Told : {C : Type 0} → Option Refusal → Tally C → Tally C → Tally C → Result (Unit {0}) Refusal → Type 0
Told refusal old after new (Ok x) = (refusal ≡ None) × (new ≡ after)
Told refusal old after new (Err e) = (refusal ≡ Some e) × (new ≡ old)

-- The index of the first held contract that does not fit a variation v and a ceiling u.
abbrev pub first_unfit : {C : Type 0} → Meaning C → ℕ → ℕ → List (Position C) → Option ℕ
first_unfit K v u ps = position (λ p. not (K.fits p.contract v u)) ps

-- A market change tries the five numbers, their product, and every held contract.
abbrev pub change_refusal : {C : Type 0} → Meaning C → Tally C → Market → Option Refusal
change_refusal K t m = or_else (market_refusal m) (option_map (λ i. HeldDoesNotFit i) (first_unfit K (variation_of m) m.ceiling t.positions))

-- The tally in another market.
abbrev pub in_market : {C : Type 0} → Tally C → Market → Tally C
in_market t m = record { places = t.places; market = m; positions = t.positions }

-- The position question.
abbrev pub PositionTold : {C : Type 0} → Tally C → ℕ → Result (Position C) Refusal → Type 0
PositionTold {C} t i (Ok p) = (i < length t.positions) × ((d : Position C) → p ≡ slice_index_or t.positions i d)
PositionTold t i (Err e) = (length t.positions ≤ i) × (e ≡ NoPosition)

-- The value question: exact where the tally is kept.
abbrev pub ValueTold : {C : Type 0} → Meaning C → Tally C → ℕ → Result ℤ Refusal → Type 0
ValueTold K t x (Ok z) = (x ≤ t.market.ceiling) × (Kept K t → z ≡ value K (variation_of t.market) t.positions x)
ValueTold K t x (Err e) = (t.market.ceiling < x) × (e ≡ AboveCeiling)
