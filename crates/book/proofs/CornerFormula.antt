-- The margin as a formula over price 0 and the corners.
use Rattle.std.proofs.Common.{ℕ, ◌*◌, List, [], ◌∷◌, map, ℤ, pos, ◌≤ℤ◌, fold, refl, ⊎_elim, arith}
use borrow.Author.Differences.{ints}
use Rattle.std.specs.Int.{int_max}
use Rattle.std.specs.List.{AllByRecursion}
use Rattle.std.proofs.ByRecursion.{folded_max_z_bounds, folded_max_z_reached, All-map, all-has}
use Rattle.kinds.specs.Kinds.{Meaning, Lawful}
use Rattle.book.specs.Losses.{loss, corners}
use Rattle.book.specs.Theorems.{CornerFormula}
use Rattle.book.proofs.BookLosses.{loss_everywhere}
use Rattle.book.proofs.Rounding.{centavos_cover, centavos_least}

pub all_unmap : {X Y : Type 0} (P : Y → Type 0) (f : X → Y) (xs : List X) → AllByRecursion P (map f xs) → AllByRecursion (λ x. P (f x)) xs
all_unmap P f [] h = tt
all_unmap P f (x ∷ xs) h = (h.0, all_unmap P f xs h.1)

pub each : {X : Type 0} (P : X → Type 0) → ((x : X) → P x) → (xs : List X) → AllByRecursion P xs
each P h [] = tt
each P h (x ∷ xs) = (h x, each P h xs)

pub corner_formula : {C : Type 0} (K : Meaning C) → Lawful K → CornerFormula K
corner_formula K laws v u scale ps fit =
    let f : ℕ → ℤ = loss K v scale ps in
    let cs = 0 ∷ corners K v ps in
    let z = fold int_max (pos 0) (map f cs) in
    let bounds = folded_max_z_bounds (pos 0) (map f cs) z refl in
    let all = loss_everywhere K laws v u ps fit scale z (all_unmap (λ y. y ≤ℤ z) f cs bounds.1) in
    let up = centavos_cover z in
    record {
      holds = λ x. let h = all x in omega (arith, ints);
      least = λ m c. centavos_least z m (⊎_elim (λ e. omega (arith, ints)) (λ h. all-has (λ y. y ≤ℤ pos (m * 1000000)) (map f cs) z (All-map (λ y. y ≤ℤ pos (m * 1000000)) f cs (each (λ x. f x ≤ℤ pos (m * 1000000)) c cs)) h) (folded_max_z_reached (pos 0) (map f cs) z refl));
    }
