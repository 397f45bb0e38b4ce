-- A flexible book's loss is the one of the limiter's settlement.
use Rattle.std.proofs.Common.{◌≡◌, ℕ, ◌-◌, min, max, List, [], ◌∷◌, ℤ, pos, negsuc, ◌+ℤ◌, ◌*ℤ◌, neg_ℤ, Some, None, Option, sym, refl, ap, ◌∙◌, ap₂, ⊎_elim, arith}
use borrow.Author.Differences.{ints}
use Rattle.std.specs.Int.{int_min}
use Rattle.std.proofs.lemmas.Int.{clamps}
use Rattle.std.proofs.lemmas.Bool.{cases_lt}
use Rattle.kinds.specs.declared.side.Side.{Side}
use Rattle.kinds.specs.declared.side.Side.TheVariants.{Call, Put}
use Rattle.kinds.specs.declared.flexible.Flexible.{Flexible}
use Rattle.kinds.specs.Sides.{pays}
use Rattle.kinds.specs.FlexibleOptions.{flexible, limited}
use Rattle.book.specs.declared.position.Position.{Position}
use Rattle.book.specs.LimiterSteps.{settlement, exercised, settled_worth, settled_value}
use Rattle.book.specs.Losses.{worth, value}
use Rattle.book.specs.Markets.{variation_of, price_unit}
use Rattle.book.specs.Theorems.{LimiterLosses}

less : (a b : ℕ) → exercised (pos a +ℤ neg_ℤ (pos b)) ≡ pos (a - b)
less a b = ⊎_elim
    (λ l. let e : pos a +ℤ neg_ℤ (pos b) ≡ negsuc (b - a - 1) = omega (arith, ints) in ap exercised e ∙ ap pos (let z : 0 ≡ a - b = omega arith in z))
    (λ l. let e : pos a +ℤ neg_ℤ (pos b) ≡ pos (a - b) = omega (arith, ints) in ap exercised e)
    (cases_lt a b)

-- the formula pays what the kind pays
pays_same : (s : Side) (k : ℕ) (l : Option ℕ) (x : ℕ) → exercised (settlement s k l x) ≡ pos (pays s k (limited s l x))
pays_same Call k None x = less x k
pays_same Call k (Some l) x = less (min x l) k
pays_same Put k None x = less k x
pays_same Put k (Some l) x = less k (max x l)

lesser : (a v : ℕ) → int_min (pos a) (pos v) ≡ pos (min a v)
lesser a v = omega (arith, ints, clamps)

worth_same : (v : ℕ) (c : Flexible) (n : ℤ) (x : ℕ) → worth flexible v record { contract = c; net = n } x ≡ settled_worth v n (exercised (settlement c.side c.strike c.limiter x))
worth_same v c (pos n) x = ap (λ z. pos n *ℤ z) (sym (pays_same c.side c.strike c.limiter x))
worth_same v c (negsuc n) x = ap (λ z. negsuc n *ℤ z) (sym (ap (λ z. int_min z (pos v)) (pays_same c.side c.strike c.limiter x) ∙ lesser (pays c.side c.strike (limited c.side c.limiter x)) v))

value_same : (v : ℕ) (ps : List (Position Flexible)) (x : ℕ) → value flexible v ps x ≡ settled_value v ps x
value_same v [] x = refl
value_same v (p ∷ ps) x = ap₂ (λ a b. a +ℤ b) (worth_same v p.contract p.net x) (value_same v ps x)

pub limiter_losses : LimiterLosses
limiter_losses t x = ap (λ z. neg_ℤ z *ℤ pos (price_unit t.market)) (value_same (variation_of t.market) t.positions x)
