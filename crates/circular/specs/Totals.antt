-- What the circular's portfolios pay in all at a price, in centavos.
use Rattle.std.specs.Prelude.{ℕ, List, [], ◌∷◌, ℤ, pos, ◌+ℤ◌, fold}
use Rattle.std.specs.Int.{int_min}
use Rattle.portfolios.specs.declared.holding.Holding.{Holding}
use Rattle.portfolios.specs.Payments.{worth}

abbrev pub total : List Holding → ℕ → ℤ
total [] price = pos 0
total (h ∷ hs) price = worth h.option h.quantity price +ℤ total hs price

-- The lowest of zero and the totals at these prices.
abbrev pub lowest : List Holding → List ℕ → ℤ
lowest hs prices = fold (λ low price. int_min low (total hs price)) (pos 0) prices
