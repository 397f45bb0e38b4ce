-- What a trade does to a list of positions.
use Rattle.std.specs.Prelude.{ℕ, zero, suc, cond, List, [], ◌∷◌, ◌++◌, take, drop, ℤ, pos, negsuc, ◌+ℤ◌}
use Rattle.book.specs.declared.position.Position.{Position}
use Rattle.kinds.specs.Kinds.{Meaning}

-- A position with this net quantity, and none at zero.
abbrev pub put : {C : Type 0} → C → ℤ → List (Position C) → List (Position C)
put c (pos zero) ps = ps
put c (pos (suc n)) ps = record { contract = c; net = pos (suc n) } ∷ ps
put c (negsuc n) ps = record { contract = c; net = negsuc n } ∷ ps

-- A trade of q contracts c: it adds to the first position in the same contract, or stands after the last.
abbrev pub traded : {C : Type 0} → Meaning C → C → ℤ → List (Position C) → List (Position C)
traded K c q [] = put c q []
traded K c q (p ∷ ps) = cond (K.same p.contract c) (put p.contract (p.net +ℤ q) ps) (p ∷ traded K c q ps)

-- A trade in the contract that is held at this index.
abbrev pub traded_at : {C : Type 0} → List (Position C) → ℕ → Position C → ℤ → List (Position C)
traded_at ps i p q = take i ps ++ put p.contract (p.net +ℤ q) (drop (suc i) ps)

-- The net quantity in a contract.
abbrev pub net_in : {C : Type 0} → Meaning C → C → List (Position C) → ℤ
net_in K c [] = pos 0
net_in K c (p ∷ ps) = cond (K.same p.contract c) p.net (pos 0) +ℤ net_in K c ps
