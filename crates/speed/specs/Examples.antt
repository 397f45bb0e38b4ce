-- The book that is measured, and the values of its scenarios.
use Rattle.std.specs.Prelude.{ℕ, zero, suc, ◌+◌, ◌-◌, ◌*◌, ◌%◌, cond, List, [], ◌∷◌, ◌++◌, ℤ, pos, negsuc, ◌==◌, nat_lt}
use Rattle.kinds.specs.declared.listed.Listed.{Listed}
use Rattle.kinds.specs.declared.side.Side.TheVariants.{Call, Put}
use Rattle.book.specs.declared.market.Market.{Market}
use Rattle.book.specs.declared.position.Position.{Position}

-- Reference 2,564.50, factor 3 %, size 50, rate one to one, under the ceiling 10,000.00.
abbrev pub market : Market
market = record { ceiling = 1000000; reference = 256450; factor = 300; size = 50; rate = 10000 }

-- Calls from 260,000 up and puts from 250,000 down, in turn.
abbrev pub option_at : ℕ → Listed
option_at i = cond (i % 2 == 0) record { side = Call; strike = 260000 + 5000 * i } record { side = Put; strike = 250000 - 1900 * i }

-- Two sold and two bought in turn, 1 to 50 contracts.
abbrev pub quantity_at : ℕ → ℤ
quantity_at i = cond (nat_lt (i % 4) 2) (negsuc (i % 50)) (pos (suc (i % 50)))

-- So many positions, in book order.
abbrev pub example : ℕ → List (Position Listed)
example zero = []
example (suc n) = example n ++ record { contract = option_at n; net = quantity_at n } ∷ []

-- The value at a place of the table: at most 100 × the ceiling, which is 1,000,000.
abbrev pub value_at : ℕ → ℕ
value_at place = place * 7919003 % 100000001
