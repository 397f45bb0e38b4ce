-- Worked examples: trades in a fresh book of 128 places, and the minimum margin that they lead to; and trades at the edge of fitting.
use Rattle.std.specs.Prelude.{◌≡◌, ℕ, List, [], ◌∷◌, ℤ, pos, negsuc, Some, None, Option, MatchOption}
use Rattle.std.specs.List.{AllByRecursion}
use Rattle.kinds.specs.declared.side.Side.{Side}
use Rattle.kinds.specs.declared.side.Side.TheVariants.{Call, Put}
use Rattle.kinds.specs.declared.listed.Listed.{Listed}
use Rattle.kinds.specs.declared.flexible.Flexible.{Flexible}
use Rattle.kinds.specs.Kinds.{Meaning}
use Rattle.kinds.specs.ListedOptions.{listed}
use Rattle.kinds.specs.FlexibleOptions.{flexible}
use Rattle.book.specs.declared.market.Market.{Market}
use Rattle.book.specs.declared.position.Position.{Position}
use Rattle.book.specs.declared.refusal.Refusal.{Refusal}
use Rattle.book.specs.declared.refusal.Refusal.TheVariants.{DoesNotFit}
use Rattle.book.specs.Losses.{loss}
use Rattle.book.specs.Markets.{variation_of, price_unit}
use Rattle.book.specs.Prices.{Margin}
use Rattle.book.specs.Tallies.{Tally, holding, trade_refusal}
use Rattle.book.specs.Trades.{traded}

-- The tally after these trades, if all are accepted.
abbrev pub if_none : {X : Type 0} → Option Refusal → Option X → Option X
if_none None o = o
if_none (Some e) o = None

abbrev pub after_trades : {C : Type 0} → Meaning C → Tally C → List (Position C) → Option (Tally C)
after_trades K t [] = Some t
after_trades K t (p ∷ ps) = if_none (trade_refusal K t p.contract p.net) (after_trades K (holding t (traded K p.contract p.net t.positions)) ps)

abbrev pub fresh : {C : Type 0} → Market → Tally C
fresh m = record { places = 128; market = m; positions = [] }

-- The trades, each a contract and a quantity, are accepted, and the minimum margin is then this one at this price.
pub record Example (C : Type 0) : Type 0 where
  pub market : Market
  pub trades : List (Position C)
  pub margin : ℕ
  pub at : Option ℕ

abbrev pub LeadsTo : {C : Type 0} → Meaning C → Example C → Type 0
LeadsTo K e = MatchOption (after_trades K (fresh e.market) e.trades) ⊥ (λ t. Margin (loss K (variation_of e.market) (price_unit e.market) t.positions) e.margin e.at)

pub data Shown : Type 0 where
  listed_margin : Example Listed → Shown
  flexible_margin : Example Flexible → Shown
  -- a trade in a fresh book is turned away by this cause, or taken
  listed_trade : Market → Listed → ℤ → Option Refusal → Shown

abbrev pub Holds : Shown → Type 0
Holds (listed_margin e) = LeadsTo listed e
Holds (flexible_margin e) = LeadsTo flexible e
Holds (listed_trade m c q refusal) = trade_refusal listed (fresh m) c q ≡ refusal

-- The dollar market: variation 76.93 points, size 50, rate 1.
abbrev dollar : Market
dollar = record { ceiling = 1000000; reference = 256450; factor = 300; size = 50; rate = 10000 }

abbrev option : Side → ℕ → ℤ → Position Listed
option s k n = record { contract = record { side = s; strike = k }; net = n }

abbrev limited : Side → ℕ → ℕ → ℤ → Position Flexible
limited s k l n = record { contract = record { side = s; strike = k; limiter = Some l }; net = n }

abbrev in_dollar : {C : Type 0} → List (Position C) → ℕ → Option ℕ → Example C
in_dollar ps n at = record { market = dollar; trades = ps; margin = n; at = at }

abbrev pub examples : List Shown
examples =
    listed_margin (in_dollar (option Call 380000 (negsuc 29) ∷ []) 11539500 (Some 387693))
    ∷ listed_margin (in_dollar (option Call 380000 (negsuc 29) ∷ option Call 385000 (negsuc 29) ∷ option Put 200000 (negsuc 29) ∷ []) 23079000 (Some 392693))
    ∷ listed_margin (in_dollar (option Call 380000 (negsuc 29) ∷ option Call 385000 (negsuc 29) ∷ option Put 200000 (negsuc 29) ∷ option Call 375000 (pos 60) ∷ []) 11539500 (Some 0))
    ∷ listed_margin (in_dollar (option Call 210000 (pos 1) ∷ option Call 220000 (negsuc 0) ∷ []) 0 None)
    ∷ flexible_margin (in_dollar (limited Call 380000 384000 (negsuc 29) ∷ []) 6000000 (Some 384000))
    ∷ flexible_margin (in_dollar (limited Call 380000 390000 (negsuc 29) ∷ []) 11539500 (Some 387693))
    ∷ listed_trade dollar (record { side = Put; strike = 7693 }) (negsuc 0) None
    ∷ listed_trade dollar (record { side = Call; strike = 992307 }) (negsuc 0) None
    ∷ listed_trade dollar (record { side = Put; strike = 7692 }) (negsuc 0) (Some DoesNotFit)
    ∷ listed_trade dollar (record { side = Call; strike = 992308 }) (negsuc 0) (Some DoesNotFit)
    ∷ listed_margin (record { market = record { ceiling = 1000; reference = 1000; factor = 10; size = 1; rate = 1 }; trades = option Call 500 (negsuc 0) ∷ []; margin = 1; at = Some 501 })
    ∷ []

abbrev pub ExamplesHold : Type 0
ExamplesHold = AllByRecursion Holds examples
