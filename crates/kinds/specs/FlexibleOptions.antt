-- Flexible options as a kind of contract.
use Rattle.std.specs.Prelude.{ℕ, min, max, Bool, true, false, cond, ◌&&◌, List, [], ◌∷◌, Some, None, Ok, Err, Option, Result, ◌==◌, nat_le, nat_lt}
use Rattle.kinds.specs.declared.side.Side.{Side}
use Rattle.kinds.specs.declared.side.Side.TheVariants.{Call, Put}
use Rattle.kinds.specs.declared.flexible.Flexible.{Flexible}
use Rattle.kinds.specs.declared.contract_refusal.ContractRefusal.{ContractRefusal}
use Rattle.kinds.specs.declared.contract_refusal.ContractRefusal.TheVariants.{Strike, Limiter}
use Rattle.kinds.specs.Kinds.{Meaning}
use Rattle.kinds.specs.Sides.{pays, moved, side_fits, strike_right, side_same}

-- With a limiter a call pays on the lesser of price and limiter, a put on the greater.
abbrev pub limited : Side → Option ℕ → ℕ → ℕ
limited Call None price = price
limited Call (Some limiter) price = min price limiter
limited Put None price = price
limited Put (Some limiter) price = max price limiter

abbrev pub strike_and_limiter : ℕ → Option ℕ → List ℕ
strike_and_limiter strike None = strike ∷ []
strike_and_limiter strike (Some limiter) = strike ∷ limiter ∷ []

-- The strike moved by the variation, or the limiter where that would pass it.
abbrev pub moved_within : Side → ℕ → Option ℕ → ℕ → ℕ
moved_within side strike limiter variation = limited side limiter (moved side strike variation)

-- A call's limiter lies above its strike and at most at 20,000,000, a put's from 0 to below its strike.
abbrev pub limiter_right : Side → ℕ → Option ℕ → Bool
limiter_right Call strike None = true
limiter_right Call strike (Some limiter) = nat_lt strike limiter && nat_le limiter 20000000
limiter_right Put strike None = true
limiter_right Put strike (Some limiter) = nat_lt limiter strike

-- A limited call fits if its limiter is at most the ceiling, a limited put if its strike is.
abbrev pub limiter_fits : Side → ℕ → Option ℕ → ℕ → ℕ → Bool
limiter_fits Call strike None variation ceiling = side_fits Call strike variation ceiling
limiter_fits Call strike (Some limiter) variation ceiling = nat_le limiter ceiling
limiter_fits Put strike None variation ceiling = side_fits Put strike variation ceiling
limiter_fits Put strike (Some limiter) variation ceiling = nat_le strike ceiling

abbrev pub limiter_same : Option ℕ → Option ℕ → Bool
limiter_same None None = true
limiter_same None (Some m) = false
limiter_same (Some l) None = false
limiter_same (Some l) (Some m) = l == m

abbrev pub flexible : Meaning Flexible
flexible = record {
  payment = λ c x. pays c.side c.strike (limited c.side c.limiter x);
  payment_under = λ c v x. min (pays c.side c.strike (limited c.side c.limiter x)) v;
  corners = λ c. strike_and_limiter c.strike c.limiter;
  corners_under = λ c v. c.strike ∷ moved_within c.side c.strike c.limiter v ∷ [];
  fits = λ c v u. strike_right c.strike && (limiter_right c.side c.strike c.limiter && limiter_fits c.side c.strike c.limiter v u);
  same = λ c d. side_same c.side d.side && (c.strike == d.strike && limiter_same c.limiter d.limiter);
}

-- The contract that is made, or the first cause for which it is not.
abbrev pub flexible_made : Side → ℕ → Option ℕ → Result Flexible ContractRefusal
flexible_made side strike limiter =
    cond (strike_right strike)
    (cond (limiter_right side strike limiter) (Ok record { side = side; strike = strike; limiter = limiter }) (Err Limiter))
    (Err Strike)
