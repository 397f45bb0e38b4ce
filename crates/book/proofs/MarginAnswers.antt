-- The answer to the margin question: how a worst price gives it, that there is one, and how high it may be.
use Rattle.std.proofs.Common.{◌≡◌, ℕ, ◌*◌, ℤ, pos, ◌≤ℤ◌, ◌<ℤ◌, Some, None, Option, refl, ap, ⊎_elim, arith}
use borrow.Author.Differences.{ints}
use Rattle.std.proofs.lemmas.Bool.{cases_order}
use Rattle.kinds.specs.Kinds.{Meaning, Lawful}
use Rattle.book.specs.Prices.{Worst, Covers, Least, Margin, centavos}
use Rattle.book.specs.Losses.{sold}
use Rattle.book.specs.Theorems.{OneMargin, SoldBounds, CornersBound, CornersSuffice}
use Rattle.book.proofs.Rounding.{worst_covers, centavos_cover}
use Rattle.book.proofs.BookLosses as losses

pub corners_bound : {C : Type 0} (K : Meaning C) → Lawful K → CornersBound K
corners_bound K laws v u scale ps f = losses.loss_everywhere K laws v u ps f scale

pub corners_suffice : {C : Type 0} (K : Meaning C) → Lawful K → CornersSuffice K
corners_suffice K laws v u scale ps f = losses.loss_worst K laws v u ps f scale

-- some loss is above zero
pub margin_some : (f : ℕ → ℤ) (p : ℕ) → Worst f p → pos 0 <ℤ f p → Margin f (centavos (f p)) (Some p)
margin_some f p w h = record { covers = worst_covers f p w; named = (h, w) }

-- none is
pub margin_none : (f : ℕ → ℤ) (p : ℕ) → Worst f p → f p ≤ℤ pos 0 → Margin f 0 None
margin_none f p w h = record {
  covers = record { holds = λ x. let k = w.greatest x in omega (arith, ints); least = λ m c. omega arith };
  named = λ x. let k = w.greatest x in omega (arith, ints);
}

pub least_once : (P : ℕ → Type 0) (m n : ℕ) → Least P m → Least P n → m ≡ n
least_once P m n a b = let h = a.least n b.holds in let k = b.least m a.holds in omega arith

worst_once : (f : ℕ → ℤ) (p q : ℕ) → Worst f p → Worst f q → p ≡ q
worst_once f p q a b =
    ⊎_elim (λ e. e) (⊎_elim
    (λ l. let h = b.lowest p l in let k = a.greatest q in absurd (omega (arith, ints)))
    (λ l. let h = a.lowest q l in let k = b.greatest p in absurd (omega (arith, ints)))) (cases_order p q)

named_once : (f : ℕ → ℤ) (m n : ℕ) (a b : Option ℕ) → Margin f m a → Margin f n b → a ≡ b
named_once f m n None None r s = refl
named_once f m n None (Some q) r s = let k = r.named q in let h = s.named.0 in absurd (omega (arith, ints))
named_once f m n (Some p) None r s = let k = s.named p in let h = r.named.0 in absurd (omega (arith, ints))
named_once f m n (Some p) (Some q) r s = ap Some (worst_once f p q r.named.1 s.named.1)

pub one_margin : OneMargin
one_margin f m n a b r s = (least_once (Covers f) m n r.covers s.covers, named_once f m n a b r s)

pub sold_bounds : {C : Type 0} (K : Meaning C) → Lawful K → SoldBounds K
sold_bounds K laws v u scale ps f m l =
    l.least (centavos (pos (sold ps * v * scale))) (λ x.
    let h = losses.loss_most K laws v u ps f scale x in
    let k = centavos_cover (pos (sold ps * v * scale)) in
    omega (arith, ints))
