use Rattle.std.proofs.Common.{◌≡◌, ℕ, ◌/◌, ◌%◌, List, ◌++◌, ℤ, pos, negsuc, nat_abs, ◌≤ℤ◌, codes, decimal, arith, rules}
use borrow.Author.Differences.{ints}
use Rattle.portfolios.specs.Amounts.{Grouped, Hundredths}
use Rattle.portfolios.proofs.amount.hundredths.Goals as goal

-- an amount from zero up has no sign
unsigned : (z : ℤ) (whole text : List ℕ) → pos 0 ≤ℤ z → Grouped (nat_abs z / 100) whole → text ≡ whole ++ (codes "." ++ (decimal (nat_abs z / 10 % 10) ++ decimal (nat_abs z % 10))) → Hundredths z text
unsigned (pos n) whole text h g e = record { whole = whole; grouped = g; is = e }
unsigned (negsuc n) whole text h g e = absurd (omega (arith, ints))

pub returns : goal.returns
returns c = search (rules, unsigned)
