-- The market's numbers with their places among the five.
use Rattle.std.specs.Prelude.{ℕ}
use Rattle.sheet.specs.declared.market_number.MarketNumber.{MarketNumber}
use Rattle.sheet.specs.declared.market_number.MarketNumber.TheVariants.{Ceiling, Reference, Factor, Size, Rate}

abbrev pub market_place : MarketNumber → ℕ
market_place Ceiling = 1
market_place Reference = 2
market_place Factor = 3
market_place Size = 4
market_place Rate = 5
