-- Sums cut to 64 bits, and that a question has one reply.
use Rattle.std.proofs.Common.{◌≡◌, ℕ, ◌+◌, ◌*◌, ◌%◌, ◌^◌, List, Ok, Err, Result, arith}
use Rattle.std.specs.Result.{result_unwrap_or}
use Rattle.kinds.specs.Kinds.{Meaning}
use Rattle.book.specs.declared.refusal.Refusal.{Refusal}
use Rattle.book.specs.Scenarios.{RequiredTold}
use Rattle.book.specs.Tallies.{Tally, Kept}

-- one more of x, in 64 bits
pub more : (sum i x reply y : ℕ) → sum ≡ i * x % 2 ^ 64 → reply % 2 ^ 64 ≡ x % 2 ^ 64 → y ≡ (sum + reply) % 2 ^ 64 → y ≡ (i + 1) * x % 2 ^ 64
more sum i x reply y s e f = let m : (i + 1) * x ≡ i * x + x = omega arith in omega arith

-- a required margin has one answer, so a reply is it
pub replied : {C : Type 0} (K : Meaning C) (t : Tally C) (scenarios : ℕ) (table : List ℕ) (r : Result ℕ Refusal) (n : ℕ) → Kept K t → RequiredTold K t scenarios table (Ok n) → RequiredTold K t scenarios table r → result_unwrap_or r 0 ≡ n
replied K t scenarios table (Ok m) n k h g =
    let a = h.1 k in
    let b = g.1 k in
    let low = a.least m b.holds in
    let high = b.least n a.holds in
    omega arith
replied K t scenarios table (Err e) n k h g = cc
