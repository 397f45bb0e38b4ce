-- Products of integers by a natural number, which omega does not multiply out.
use Rattle.std.proofs.Common.{◌≡◌, ℕ, zero, suc, ◌+◌, ◌*◌, ◌<◌, ℤ, pos, negsuc, ◌+ℤ◌, ◌*ℤ◌, neg_ℤ, nat_abs, ◌≤ℤ◌, ◌<ℤ◌, refl, ap, ◌∙◌, mul-le-mul_right, add-mul, mul-add, arith}
use borrow.Author.Differences.{ints, up, down, le_out, lt_out, sum_is_lem}

-- an integer times a sum of naturals
pub times_add : (z : ℤ) (a b : ℕ) → z *ℤ pos (a + b) ≡ z *ℤ pos a +ℤ z *ℤ pos b
times_add (pos n) a b = ap pos (mul-add n a b)
times_add (negsuc n) a b = omega (arith, ints, mul-add (suc n) a b)

-- a sum of integers times a natural
pub add_times : (a b : ℤ) (s : ℕ) → (a +ℤ b) *ℤ pos s ≡ a *ℤ pos s +ℤ b *ℤ pos s
add_times a b s =
    let e : (up (a +ℤ b) + down a + down b) * s ≡ (down (a +ℤ b) + up a + up b) * s = ap (λ n. n * s) (sum_is_lem a b) in
    let l : (up (a +ℤ b) + down a + down b) * s ≡ up (a +ℤ b) * s + down a * s + down b * s = add-mul (up (a +ℤ b) + down a) (down b) s ∙ ap (λ n. n + down b * s) (add-mul (up (a +ℤ b)) (down a) s) in
    let r : (down (a +ℤ b) + up a + up b) * s ≡ down (a +ℤ b) * s + up a * s + up b * s = add-mul (down (a +ℤ b) + up a) (up b) s ∙ ap (λ n. n + up b * s) (add-mul (down (a +ℤ b)) (up a) s) in
    omega (arith, ints)

pub times_le : (a b : ℤ) (s : ℕ) → a ≤ℤ b → (a *ℤ pos s) ≤ℤ (b *ℤ pos s)
times_le a b s h =
    let k = mul-le-mul_right s (le_out a b h) in
    omega (arith, ints, k, add-mul (up a) (down b) s, add-mul (up b) (down a) s)

pub times_lt : (a b : ℤ) (s : ℕ) → 0 < s → a <ℤ b → (a *ℤ pos s) <ℤ (b *ℤ pos s)
times_lt a b s p h =
    let k = mul-le-mul_right s (lt_out a b h) in
    omega (arith, ints, k, add-mul 1 (up a + down b) s, add-mul (up a) (down b) s, add-mul (up b) (down a) s)

-- minus goes past a product
pub neg_times : (z : ℤ) (s : ℕ) → neg_ℤ (z *ℤ pos s) ≡ neg_ℤ z *ℤ pos s
neg_times (pos zero) s = omega (arith, ints)
neg_times (pos (suc n)) s = omega (arith, ints)
neg_times (negsuc n) s = omega (arith, ints)

pub times_size : (z : ℤ) (s : ℕ) → nat_abs (z *ℤ pos s) ≡ nat_abs z * s
times_size (pos n) s = refl
times_size (negsuc n) s = omega (arith, ints)
