-- Calls and puts: the payment of an option without limiter, its moved strike, and the range of strikes.
use Rattle.std.specs.Prelude.{ℕ, ◌+◌, ◌-◌, Bool, true, false, ◌&&◌, nat_le}
use Rattle.kinds.specs.declared.side.Side.{Side}
use Rattle.kinds.specs.declared.side.Side.TheVariants.{Call, Put}

-- A call pays price less strike, a put strike less price, and never below zero, where `-` stops.
abbrev pub pays : Side → ℕ → ℕ → ℕ
pays Call strike price = price - strike
pays Put strike price = strike - price

-- The strike moved by the variation: up for a call, down for a put.
abbrev pub moved : Side → ℕ → ℕ → ℕ
moved Call strike variation = strike + variation
moved Put strike variation = strike - variation

-- A call fits if strike plus variation is at most the ceiling.
-- A put fits if its strike is at least the variation and at most the ceiling.
abbrev pub side_fits : Side → ℕ → ℕ → ℕ → Bool
side_fits Call strike variation ceiling = nat_le (strike + variation) ceiling
side_fits Put strike variation ceiling = nat_le variation strike && nat_le strike ceiling

abbrev pub strike_right : ℕ → Bool
strike_right strike = nat_le 1 strike && nat_le strike 20000000

abbrev pub side_same : Side → Side → Bool
side_same Call Call = true
side_same Call Put = false
side_same Put Call = false
side_same Put Put = true
