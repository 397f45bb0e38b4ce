-- The exchange's formula for flexible options with a limiter, in its own steps.
use Rattle.std.specs.Prelude.{ℕ, min, max, List, [], ◌∷◌, ℤ, pos, negsuc, ◌+ℤ◌, ◌*ℤ◌, neg_ℤ, Some, None, Option}
use Rattle.std.specs.Int.{int_min}
use Rattle.kinds.specs.declared.side.Side.{Side}
use Rattle.kinds.specs.declared.side.Side.TheVariants.{Call, Put}
use Rattle.kinds.specs.declared.flexible.Flexible.{Flexible}
use Rattle.book.specs.declared.position.Position.{Position}

-- A call settles at the lesser of price and limiter, less the strike; a put at the strike, less the greater of both.
abbrev pub settlement : Side → ℕ → Option ℕ → ℕ → ℤ
settlement Call strike None price = pos price +ℤ neg_ℤ (pos strike)
settlement Call strike (Some limiter) price = pos (min price limiter) +ℤ neg_ℤ (pos strike)
settlement Put strike None price = pos strike +ℤ neg_ℤ (pos price)
settlement Put strike (Some limiter) price = pos strike +ℤ neg_ℤ (pos (max price limiter))

-- It is paid where it is above zero; the holder lets the option lapse otherwise.
abbrev pub exercised : ℤ → ℤ
exercised (pos n) = pos n
exercised (negsuc n) = pos 0

-- What a position with this net quantity is worth where each contract settles at z: a sold one loses at most the variation v.
abbrev pub settled_worth : ℕ → ℤ → ℤ → ℤ
settled_worth v (pos n) z = pos n *ℤ z
settled_worth v (negsuc n) z = negsuc n *ℤ int_min z (pos v)

abbrev pub settled_value : ℕ → List (Position Flexible) → ℕ → ℤ
settled_value v [] x = pos 0
settled_value v (p ∷ ps) x = settled_worth v p.net (exercised (settlement p.contract.side p.contract.strike p.contract.limiter x)) +ℤ settled_value v ps x
