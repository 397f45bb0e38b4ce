-- The market: the ranges of its numbers, its variation and its units.
use Rattle.std.specs.Prelude.{◌≡◌, ℕ, ◌*◌, ◌/◌, ◌≤◌, Bool, false, cond, ◌||◌, is_some, Some, None, Option, nat_lt}
use Rattle.book.specs.declared.market.Market.{Market}
use Rattle.book.specs.declared.refusal.Refusal.{Refusal}
use Rattle.book.specs.declared.refusal.Refusal.TheVariants.{MarketNumber, Product}

abbrev pub outside : ℕ → ℕ → ℕ → Bool
outside n low high = nat_lt n low || nat_lt high n

-- The first cause for which the five numbers are no market, if there is one.
abbrev pub market_refusal : Market → Option Refusal
market_refusal m =
    cond (outside m.ceiling 1 20000000) (Some (MarketNumber 1))
    (cond (outside m.reference 1 m.ceiling) (Some (MarketNumber 2))
    (cond (outside m.factor 0 10000) (Some (MarketNumber 3))
    (cond (outside m.size 1 1000) (Some (MarketNumber 4))
    (cond (outside m.rate 1 99999) (Some (MarketNumber 5))
    (cond (nat_lt 5000000000000 (m.ceiling * m.size * m.rate)) (Some Product)
    None)))))

-- The five numbers are a market.
abbrev pub IsMarket : Market → Type 0
IsMarket m = is_some (market_refusal m) ≡ false

-- What the five numbers of a market keep.
pub record Right (m : Market) : Type 0 where
  pub ceiling_some : 1 ≤ m.ceiling
  pub ceiling_low : m.ceiling ≤ 20000000
  pub reference_some : 1 ≤ m.reference
  pub reference_low : m.reference ≤ m.ceiling
  pub factor_low : m.factor ≤ 10000
  pub size_some : 1 ≤ m.size
  pub size_low : m.size ≤ 1000
  pub rate_some : 1 ≤ m.rate
  pub rate_low : m.rate ≤ 99999
  pub product_low : m.ceiling * m.size * m.rate ≤ 5000000000000

-- Reference price × factor ÷ 10,000, cut to a whole number.
abbrev pub variation_of : Market → ℕ
variation_of m = m.reference * m.factor / 10000

-- The exact units in one hundredth of a point of one contract, and in one ten-thousandth.
abbrev pub price_unit : Market → ℕ
price_unit m = 100 * (m.size * m.rate)

abbrev pub value_unit : Market → ℕ
value_unit m = m.size * m.rate

-- The unit minimum margin, in exact units.
abbrev pub unit_margin : Market → ℕ
unit_margin m = variation_of m * price_unit m
