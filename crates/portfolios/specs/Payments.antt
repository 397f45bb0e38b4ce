-- What a position of a portfolio pays at a price, in centavos.
use Rattle.std.specs.Prelude.{ℕ, min, ℤ, pos, negsuc, ◌*ℤ◌}
use Rattle.kinds.specs.declared.listed.Listed.{Listed}
use Rattle.kinds.specs.Sides.{pays}

-- What one contract pays into a position with this quantity: a sold one at most the variation.
abbrev pub counted : Listed → ℤ → ℕ → ℕ
counted option (pos n) price = pays option.side option.strike price
counted option (negsuc n) price = min (pays option.side option.strike price) 7693

-- A payment in hundredths of a point, at 50 reais a point, is 50 centavos for each hundredth.
abbrev pub worth : Listed → ℤ → ℕ → ℤ
worth option quantity price = (quantity *ℤ pos (counted option quantity price)) *ℤ pos 50
