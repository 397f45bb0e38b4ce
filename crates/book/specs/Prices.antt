-- A loss at each whole price: where it is greatest, and which whole numbers of centavos cover it.
-- A loss is an integer of exact units, a millionth of a centavo; below zero it is a gain.
use Rattle.std.specs.Prelude.{ℕ, ◌+◌, ◌*◌, ◌/◌, ◌<◌, ◌≤◌, List, ℤ, pos, negsuc, ◌≤ℤ◌, ◌<ℤ◌, Option, MatchOption}
use Rattle.std.specs.List.{AllByRecursion}

-- The price p stands ahead of the price x: the loss at x is no greater, and less if x is the lower price.
pub record Ahead (loss : ℕ → ℤ) (p x : ℕ) : Type 0 where
  pub no_less : loss x ≤ℤ loss p
  pub first : x < p → loss x <ℤ loss p

-- p stands ahead of each of these prices.
pub record Leads (loss : ℕ → ℤ) (p : ℕ) (xs : List ℕ) : Type 0 where
  pub each : AllByRecursion (Ahead loss p) xs

-- none of these prices lies above u
pub record Under (u : ℕ) (xs : List ℕ) : Type 0 where
  pub each : AllByRecursion (λ x. x ≤ u) xs

-- p is the lowest of all whole prices at which the loss is greatest.
pub record Worst (loss : ℕ → ℤ) (p : ℕ) : Type 0 where
  pub greatest : (x : ℕ) → loss x ≤ℤ loss p
  pub lowest : (x : ℕ) → x < p → loss x <ℤ loss p

-- n centavos cover the loss at every whole price.
abbrev pub Covers : (ℕ → ℤ) → ℕ → Type 0
Covers loss n = (x : ℕ) → loss x ≤ℤ pos (n * 1000000)

-- n is the smallest number of which P holds.
pub record Least (P : ℕ → Type 0) (n : ℕ) : Type 0 where
  pub holds : P n
  pub least : (m : ℕ) → P m → n ≤ m

-- An amount of exact units, rounded up to a centavo, and 0 for a gain.
abbrev pub centavos : ℤ → ℕ
centavos (pos n) = (n + 999999) / 1000000
centavos (negsuc n) = 0

-- The answer to the margin question: the least number of centavos that covers the loss at every whole price, and the
-- lowest price at which the loss is greatest, which is named if and only if some loss is above zero.
pub record Margin (loss : ℕ → ℤ) (n : ℕ) (at : Option ℕ) : Type 0 where
  pub covers : Least (Covers loss) n
  pub named : MatchOption at ((x : ℕ) → loss x ≤ℤ pos 0) (λ p. (pos 0 <ℤ loss p) × Worst loss p)

-- n centavos also cover every loss of this list.
abbrev pub CoversBoth : (ℕ → ℤ) → List ℤ → ℕ → Type 0
CoversBoth loss losses n = Covers loss n × AllByRecursion (λ z. z ≤ℤ pos (n * 1000000)) losses

-- z is the least amount of exact units, not below zero, that covers the loss at every whole price and every loss of this list.
pub record Exact (loss : ℕ → ℤ) (losses : List ℤ) (z : ℤ) : Type 0 where
  pub not_below : pos 0 ≤ℤ z
  pub everywhere : (x : ℕ) → loss x ≤ℤ z
  pub each : AllByRecursion (λ y. y ≤ℤ z) losses
  pub least : (m : ℤ) → pos 0 ≤ℤ m → ((x : ℕ) → loss x ≤ℤ m) → AllByRecursion (λ y. y ≤ℤ m) losses → z ≤ℤ m
