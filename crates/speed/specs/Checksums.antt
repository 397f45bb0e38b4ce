-- What replies add up to.
use Rattle.std.specs.Prelude.{◌≡◌, ℕ, ◌+◌, ◌*◌, ◌%◌, ◌^◌, List, Ok, Option}
use Rattle.std.specs.Option.{unwrap_or}
use Rattle.kinds.specs.declared.listed.Listed.{Listed}
use Rattle.kinds.specs.ListedOptions.{listed}
use Rattle.book.specs.Losses.{loss}
use Rattle.book.specs.Markets.{variation_of, price_unit}
use Rattle.book.specs.Prices.{Margin}
use Rattle.book.specs.Scenarios.{RequiredTold}
use Rattle.book.specs.Tallies.{Tally}

-- So many minimum margins with their prices (0 where there is none), cut to 64 bits.
abbrev pub SumsMinimums : Tally Listed → ℕ → ℕ → Type 0
SumsMinimums t times sum =
    (n : ℕ) (at : Option ℕ) → Margin (loss listed (variation_of t.market) (price_unit t.market) t.positions) n at → sum ≡ times * (n + unwrap_or at 0) % 2 ^ 64

-- So many required margins, cut to 64 bits.
abbrev pub SumsRequireds : Tally Listed → ℕ → List ℕ → ℕ → ℕ → Type 0
SumsRequireds t scenarios table times sum =
    (n : ℕ) → RequiredTold listed t scenarios table (Ok n) → sum ≡ times * n % 2 ^ 64
