-- A kind of contract as a book sees it, and the six rules that every kind keeps.
use Rattle.std.specs.Prelude.{◌≡◌, ℕ, ◌+◌, ◌-◌, ◌*◌, ◌≤◌, min, Bool, true, ◌≢◌, List, length}
use Rattle.std.specs.List.{AllByRecursion}

-- What a kind replies, over all whole prices from zero up. C is the type of its contracts.
pub record Meaning (C : Type 0) : Type 0 where
  -- the payment at a price
  pub payment : C → ℕ → ℕ
  -- the payment under a variation, at a price
  pub payment_under : C → ℕ → ℕ → ℕ
  -- the plain corners
  pub corners : C → List ℕ
  -- the corners under a variation
  pub corners_under : C → ℕ → List ℕ
  -- whether a contract fits a variation and a ceiling
  pub fits : C → ℕ → ℕ → Bool
  -- whether two contracts are the same
  pub same : C → C → Bool

-- The price x is none of these.
abbrev pub Apart : ℕ → List ℕ → Type 0
Apart x prices = AllByRecursion (λ p. p ≢ x) prices

-- Twice the payment at x is the payment one below plus the payment one above.
abbrev pub StraightAt : (ℕ → ℕ) → ℕ → Type 0
StraightAt payment x = 2 * payment x ≡ payment (x - 1) + payment (x + 1)

-- The payment bends at none but these prices, and perhaps at 0.
abbrev pub StraightOff : List ℕ → (ℕ → ℕ) → Type 0
StraightOff prices payment = (x : ℕ) → 1 ≤ x → Apart x prices → StraightAt payment x

-- At most two prices, none above the ceiling.
pub record Few (ceiling : ℕ) (prices : List ℕ) : Type 0 where
  pub two : length prices ≤ 2
  pub low : AllByRecursion (λ p. p ≤ ceiling) prices

-- The contracts c and d may stand for one another.
pub record Agree {C : Type 0} (m : Meaning C) (c d : C) : Type 0 where
  pub payment : (x : ℕ) → m.payment c x ≡ m.payment d x
  pub payment_under : (v x : ℕ) → m.payment_under c v x ≡ m.payment_under d v x
  pub corners : m.corners c ≡ m.corners d
  pub corners_under : (v : ℕ) → m.corners_under c v ≡ m.corners_under d v
  pub fits : (v u : ℕ) → m.fits c v u ≡ m.fits d v u

-- Sameness is an equivalence, and same contracts agree in every other reply.
pub record Sameness {C : Type 0} (m : Meaning C) : Type 0 where
  pub reflexive : (c : C) → m.same c c ≡ true
  pub symmetric : (c d : C) → m.same c d ≡ true → m.same d c ≡ true
  pub transitive : (c d e : C) → m.same c d ≡ true → m.same d e ≡ true → m.same c e ≡ true
  pub agree : (c d : C) → m.same c d ≡ true → Agree m c d

-- The six rules. The first five are kept by every contract c that fits the variation v and the ceiling u, the last by all.
-- That a payment is never negative is said by its type: it is a whole number from zero up.
pub record Lawful {C : Type 0} (m : Meaning C) : Type 0 where
  -- at a price up to the ceiling the payment is at most the ceiling
  pub at_most_ceiling : (c : C) (v u : ℕ) → m.fits c v u ≡ true → (x : ℕ) → x ≤ u → m.payment c x ≤ u
  -- the payment under a variation is the lesser of the payment and the variation
  pub lesser_under : (c : C) (v u : ℕ) → m.fits c v u ≡ true → (x : ℕ) → m.payment_under c v x ≡ min (m.payment c x) v
  -- at most two corners of each sort are told, and none lies above the ceiling
  pub few_corners : (c : C) (v u : ℕ) → m.fits c v u ≡ true → Few u (m.corners c) × Few u (m.corners_under c v)
  -- off the plain corners the payment is straight
  pub straight : (c : C) (v u : ℕ) → m.fits c v u ≡ true → StraightOff (m.corners c) (m.payment c)
  -- off the corners under a variation the payment under it is straight
  pub straight_under : (c : C) (v u : ℕ) → m.fits c v u ≡ true → StraightOff (m.corners_under c v) (m.payment_under c v)
  pub sameness : Sameness m

-- P is owed where the contract c fits the variation v and some ceiling of a market that the price x does not pass.
-- No market has a ceiling above 20,000,000.
abbrev pub WhereFits : {C : Type 0} → Meaning C → C → ℕ → ℕ → Type 0 → Type 0
WhereFits m c v x P = (u : ℕ) → m.fits c v u ≡ true → x ≤ u → u ≤ 20000000 → P
