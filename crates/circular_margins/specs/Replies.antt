-- What the book replies on a portfolio whose rows are traded one after another.
use Rattle.std.specs.Prelude.{ℕ, List, [], fold}
use Rattle.kinds.specs.declared.listed.Listed.{Listed}
use Rattle.kinds.specs.ListedOptions.{listed}
use Rattle.book.specs.declared.market.Market.{Market}
use Rattle.book.specs.declared.position.Position.{Position}
use Rattle.book.specs.Markets.{value_unit}
use Rattle.book.specs.Prices.{Margin, Least, CoversBoth}
use Rattle.book.specs.Runs.{loss_of}
use Rattle.book.specs.Scenarios.{scenario_losses}
use Rattle.book.specs.Trades.{traded}
use Rattle.book.specs.Tallies.{Tally}
use Rattle.portfolios.specs.declared.holding.Holding.{Holding}
use Rattle.circular_margins.specs.declared.margins.Margins.{Margins}

-- The circular's market: reference 2,564.50, factor 3 %, size 50, rate one to one, under the ceiling 10,000.00.
abbrev pub market : Market
market = record { ceiling = 1000000; reference = 256450; factor = 300; size = 50; rate = 10000 }

-- The positions after the trades of these rows.
abbrev pub rows_traded : List Holding → List (Position Listed)
rows_traded hs = fold (λ ps h. traded listed h.option h.quantity ps) [] hs

abbrev pub portfolio : ℕ → List Holding → Tally Listed
portfolio places hs = record { places = places; market = market; positions = rows_traded hs }

-- The minimum margin is the least number of centavos that covers the protected loss at every whole price, with the lowest price at which the
-- loss is greatest; the required margin covers the loss in the worst scenario too.
pub record Right (t : Tally Listed) (worst : List ℕ) (m : Margins) : Type 0 where
  pub minimum : Margin (loss_of listed t) m.minimum m.price
  pub required : Least (CoversBoth (loss_of listed t) (scenario_losses (value_unit t.market) t.positions 1 worst)) m.required
