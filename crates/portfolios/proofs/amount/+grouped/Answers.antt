use Rattle.std.proofs.Common.{◌≡◌, ℕ, ◌/◌, ◌%◌, ◌<◌, ◌≤◌, List, ◌++◌, codes, decimal, sym, subst, rules}
use Rattle.portfolios.specs.Amounts.{Grouped, below, above}
use Rattle.portfolios.proofs.amount.+grouped.Goals as goal

few : (n : ℕ) (text : List ℕ) → n < 1000 → text ≡ decimal n → Grouped n text
few n text l e = subst (Grouped n) (sym e) (below n l)

more : (n : ℕ) (front text : List ℕ) → 1000 ≤ n → Grouped (n / 1000) front → text ≡ front ++ (codes "," ++ (decimal (n / 100 % 10) ++ (decimal (n / 10 % 10) ++ decimal (n % 10)))) → Grouped n text
more n front text l g e = subst (Grouped n) (sym e) (above n front l g)

pub returns-then-n-lt1000 : goal.returns-then-n-lt1000
returns-then-n-lt1000 t c = search (rules, few)

pub returns : goal.returns
returns t c = search (rules, more)
