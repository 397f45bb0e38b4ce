-- The circular's steps lead to the least covering number: price 0, which they leave out, never raises it.
use Rattle.std.proofs.Common.{◌≡◌, ℕ, zero, suc, ◌+◌, ◌*◌, ◌≤◌, min, true, ◌&&◌, leb, List, [], ◌∷◌, ◌++◌, map, length, take, drop, ℤ, pos, negsuc, ◌+ℤ◌, ◌*ℤ◌, neg_ℤ, ◌≤ℤ◌, Some, None, fold, Option, sym, refl, ap, ◌∙◌, subst, ⊎_elim, mul-add, arith}
use borrow.Author.Differences.{ints}
use Rattle.std.specs.Int.{int_min}
use Rattle.std.specs.List.{AllByRecursion}
use Rattle.std.proofs.ByRecursion.{All-map, all-has, All-weaker, folded_min_z_bounds, folded_min_z_reached}
use Rattle.std.proofs.lemmas.Int.{clamps}
use Rattle.std.proofs.lemmas.Bool.{and_parts, leb-true}
use Rattle.kinds.specs.declared.side.Side.{Side}
use Rattle.kinds.specs.declared.side.Side.TheVariants.{Call, Put}
use Rattle.kinds.specs.declared.listed.Listed.{Listed}
use Rattle.kinds.specs.Kinds.{Lawful}
use Rattle.kinds.specs.Sides.{pays, moved, side_fits, strike_right}
use Rattle.kinds.specs.ListedOptions.{listed}
use Rattle.kinds.specs.FlexibleOptions.{flexible, limited, moved_within, strike_and_limiter, limiter_right, limiter_fits}
use Rattle.book.specs.declared.position.Position.{Position}
use Rattle.book.specs.CircularSteps.{protection, protected_portfolio, portfolio_value, strikes, circular_minimum, scenario_values, circular_required}
use Rattle.book.specs.Scenarios.{row_value, scenario_losses}
use Rattle.book.specs.Losses.{value, loss, told, corners, Fitting}
use Rattle.book.specs.Prices.{CoversBoth, Exact, Least, centavos}
use Rattle.book.specs.Markets.{variation_of, price_unit, value_unit}
use Rattle.book.specs.Theorems.{CircularMinimum, CircularRequired, CircularReplies}
use Rattle.book.proofs.MarginAnswers.{least_once}
use Rattle.book.proofs.BookLosses.{loss_everywhere}
use Rattle.book.proofs.CornerFormula.{all_unmap, each}
use Rattle.book.proofs.Integers.{neg_times}
use Rattle.book.proofs.Rounding.{centavos_cover, centavos_least}
use Rattle.book.proofs.PriceZero.{FromZero, zero_never_raises}

-- listed options at prices 0 and 1
listed_bought : (s : Side) (k : ℕ) → strike_right k ≡ true → pays s k 1 ≤ pays s k 0
listed_bought Call k r = let h = leb-true 1 k (and_parts (leb 1 k) (leb k 20000000) r).0 in omega arith
listed_bought Put k r = omega arith

listed_sold : (s : Side) (k v : ℕ) → 1 ≤ moved s k v → min (pays s k 0) v ≤ min (pays s k 1) v
listed_sold Call k v h = omega arith
listed_sold Put k v h = omega arith

pub listed_from_zero : FromZero listed
listed_from_zero = record {
  bought = λ c v u f. listed_bought c.side c.strike (and_parts (strike_right c.strike) (side_fits c.side c.strike v u) f).0;
  sold = λ c v u f a. listed_sold c.side c.strike v a.1.0;
  bends = λ c. omega arith;
  bends_under = λ c v. omega arith;
}

-- flexible options at prices 0 and 1
flexible_bought : (s : Side) (k : ℕ) (m : Option ℕ) → strike_right k ≡ true → pays s k (limited s m 1) ≤ pays s k (limited s m 0)
flexible_bought Call k None r = listed_bought Call k r
flexible_bought Call k (Some m) r = let h = leb-true 1 k (and_parts (leb 1 k) (leb k 20000000) r).0 in omega arith
flexible_bought Put k None r = omega arith
flexible_bought Put k (Some m) r = omega arith

flexible_sold : (s : Side) (k : ℕ) (m : Option ℕ) (v : ℕ) → 1 ≤ moved_within s k m v → min (pays s k (limited s m 0)) v ≤ min (pays s k (limited s m 1)) v
flexible_sold Call k None v h = omega arith
flexible_sold Call k (Some m) v h = omega arith
flexible_sold Put k None v h = omega arith
flexible_sold Put k (Some m) v h = omega arith

limiter_bends : (k : ℕ) (m : Option ℕ) → 1 ≤ length (strike_and_limiter k m)
limiter_bends k None = omega arith
limiter_bends k (Some m) = omega arith

pub flexible_from_zero : FromZero flexible
flexible_from_zero = record {
  bought = λ c v u f. flexible_bought c.side c.strike c.limiter (and_parts (strike_right c.strike) (limiter_right c.side c.strike c.limiter && limiter_fits c.side c.strike c.limiter v u) f).0;
  sold = λ c v u f a. flexible_sold c.side c.strike c.limiter v a.1.0;
  bends = λ c. limiter_bends c.strike c.limiter;
  bends_under = λ c v. omega arith;
}

-- the protection of a sold option caps its payment at the variation
capped : (s : Side) (k v u x : ℕ) → side_fits s k v u ≡ true → pays s k x ≡ min (pays s k x) v + pays s (moved s k v) x
capped Call k v u x f = omega arith
capped Put k v u x f = let h = leb-true v k (and_parts (leb v k) (leb k u) f).0 in omega arith

module _ (v u : ℕ) where
  protects : (c : Listed) (z : ℤ) → listed.fits c v u ≡ true → (x : ℕ) (rest ps : List (Position Listed)) → portfolio_value rest x ≡ value listed v ps x → portfolio_value (record { contract = c; net = z } ∷ (protection v c z ++ rest)) x ≡ value listed v (record { contract = c; net = z } ∷ ps) x
  protects c (pos n) f x rest ps e = ap (λ w. (pos n *ℤ pos (pays c.side c.strike x)) +ℤ w) e
  protects c (negsuc n) f x rest ps e =
      let q = capped c.side c.strike v u x (and_parts (strike_right c.strike) (side_fits c.side c.strike v u) f).1 in
      let a = min (pays c.side c.strike x) v in
      let b = pays c.side (moved c.side c.strike v) x in
      omega (arith, ints, ap (λ w. suc n * w) q, mul-add (suc n) a b)

  -- the protected portfolio is worth the protected value
  same_value : (ps : List (Position Listed)) → Fitting listed v u ps → (x : ℕ) → portfolio_value (protected_portfolio v ps) x ≡ value listed v ps x
  same_value [] f x = refl
  same_value (p ∷ ps) f x = protects p.contract p.net f.0 x (protected_portfolio v ps) ps (same_value ps f.1 x)

told_strikes : (v : ℕ) (c : Listed) (z : ℤ) (rest : List (Position Listed)) (bs : List ℕ) → strikes rest ≡ bs → strikes (record { contract = c; net = z } ∷ (protection v c z ++ rest)) ≡ (told listed v c z ++ bs)
told_strikes v c (pos n) rest bs e = ap (λ w. c.strike ∷ w) e
told_strikes v c (negsuc n) rest bs e = ap (λ w. c.strike ∷ moved c.side c.strike v ∷ w) e

-- and its strikes are the corners
same_strikes : (v : ℕ) (ps : List (Position Listed)) → strikes (protected_portfolio v ps) ≡ corners listed v ps
same_strikes v [] = refl
same_strikes v (p ∷ ps) = told_strikes v p.contract p.net (protected_portfolio v ps) (corners listed v ps) (same_strikes v ps)

-- minus the least of a and these is the least that is at least minus each of them
record MinusLeast (a : ℤ) (xs : List ℤ) (r : ℤ) : Type 0 where
  pub start : neg_ℤ a ≤ℤ r
  pub each : AllByRecursion (λ x. neg_ℤ x ≤ℤ r) xs
  pub least : (m : ℤ) → neg_ℤ a ≤ℤ m → AllByRecursion (λ x. neg_ℤ x ≤ℤ m) xs → r ≤ℤ m

minus_least : (a : ℤ) (xs : List ℤ) → MinusLeast a xs (neg_ℤ (fold int_min a xs))
minus_least a xs =
    let r = fold int_min a xs in
    let b = folded_min_z_bounds a xs r refl in
    let first = b.0 in
    record {
      start = omega (arith, ints);
      each = All-weaker (λ x. r ≤ℤ x) (λ x. neg_ℤ x ≤ℤ neg_ℤ r) (λ x h. omega (arith, ints)) xs b.1;
      least = λ m h k. ⊎_elim (λ e. omega (arith, ints)) (λ i. all-has (λ x. neg_ℤ x ≤ℤ m) xs r k i) (folded_min_z_reached a xs r refl);
    }

-- rounded up to a centavo, the least amount is the least number of centavos
exact_least : (f : ℕ → ℤ) (zs : List ℤ) (z : ℤ) → Exact f zs z → Least (CoversBoth f zs) (centavos z)
exact_least f zs z e =
    let up = centavos_cover z in
    record {
      holds = (λ x. let h = e.everywhere x in omega (arith, ints), All-weaker (λ y. y ≤ℤ z) (λ y. y ≤ℤ pos (centavos z * 1000000)) (λ y h. omega (arith, ints)) zs e.each);
      least = λ m c. centavos_least z m (e.least (pos (m * 1000000)) (omega (arith, ints)) c.0 c.1);
    }

module _ (laws : Lawful listed) (v u unit : ℕ) (ps : List (Position Listed)) (fit : Fitting listed v u ps) where
  abbrev f : ℕ → ℤ
  f = loss listed v unit ps

  abbrev gain : ℕ → ℤ
  gain x = portfolio_value (protected_portfolio v ps) x *ℤ pos unit

  gain_lost : (x : ℕ) → neg_ℤ (gain x) ≡ f x
  gain_lost x = neg_times (portfolio_value (protected_portfolio v ps) x) unit ∙ ap (λ w. neg_ℤ w *ℤ pos unit) (same_value v u ps fit x)

  abbrev minimum : ℤ
  minimum = circular_minimum unit (protected_portfolio v ps)

  over_corners : MinusLeast (pos 0) (map gain (corners listed v ps)) minimum
  over_corners = subst (λ bs. MinusLeast (pos 0) (map gain bs) (neg_ℤ (fold int_min (pos 0) (map gain (strikes (protected_portfolio v ps)))))) (same_strikes v ps) (minus_least (pos 0) (map gain (strikes (protected_portfolio v ps))))

  exact : Exact f [] minimum
  exact =
      let t = over_corners in
      let start = t.start in
      let at_corners = All-weaker (λ c. neg_ℤ (gain c) ≤ℤ minimum) (λ c. f c ≤ℤ minimum) (λ c h. subst (λ w. w ≤ℤ minimum) (gain_lost c) h) (corners listed v ps) (all_unmap (λ x. neg_ℤ x ≤ℤ minimum) gain (corners listed v ps) t.each) in
      record {
        not_below = omega (arith, ints);
        everywhere = loss_everywhere listed laws v u ps fit unit minimum (zero_never_raises listed laws listed_from_zero v u unit ps fit minimum (omega (arith, ints)) at_corners, at_corners);
        each = tt;
        least = λ m z all none. t.least m (omega (arith, ints)) (All-map (λ x. neg_ℤ x ≤ℤ m) gain (corners listed v ps) (each (λ c. neg_ℤ (gain c) ≤ℤ m) (λ c. subst (λ w. w ≤ℤ m) (sym (gain_lost c)) (all c)) (corners listed v ps)));
      }

  module _ (value_unit : ℕ) where
    -- what holds of minus the scenarios' values holds of their losses
    valued : (P : ℤ → Type 0) (n : ℕ) (table : List ℕ) → AllByRecursion (λ x. P (neg_ℤ x)) (scenario_values value_unit ps n table) → AllByRecursion P (scenario_losses value_unit ps n table)
    valued P zero table h = tt
    valued P (suc n) table h = (subst P (neg_times (row_value ps (take (length ps) table)) value_unit) h.0, valued P n (drop (length ps) table) h.1)

    unvalued : (P : ℤ → Type 0) (n : ℕ) (table : List ℕ) → AllByRecursion P (scenario_losses value_unit ps n table) → AllByRecursion (λ x. P (neg_ℤ x)) (scenario_values value_unit ps n table)
    unvalued P zero table h = tt
    unvalued P (suc n) table h = (subst P (sym (neg_times (row_value ps (take (length ps) table)) value_unit)) h.0, unvalued P n (drop (length ps) table) h.1)

    required_exact : (n : ℕ) (table : List ℕ) → Exact f (scenario_losses value_unit ps n table) (circular_required minimum (scenario_values value_unit ps n table))
    required_exact n table =
        let xs = scenario_values value_unit ps n table in
        let r = circular_required minimum xs in
        let t = minus_least (int_min (neg_ℤ minimum) (pos 0)) xs in
        let start = t.start in
        record {
          not_below = omega (arith, ints, clamps);
          everywhere = λ x. let h = exact.everywhere x in omega (arith, ints, clamps);
          each = valued (λ y. y ≤ℤ r) n table t.each;
          least = λ m z all zs. let h = exact.least m z all tt in t.least m (omega (arith, ints, clamps)) (unvalued (λ y. y ≤ℤ m) n table zs);
        }

pub circular_covers : Lawful listed → CircularMinimum
circular_covers laws v u unit ps fit =
    let e = exact laws v u unit ps fit in
    let l = exact_least (loss listed v unit ps) [] (circular_minimum unit (protected_portfolio v ps)) e in
    (e, record { holds = l.holds.0; least = λ m c. l.least m (c, tt) })

pub circular_covers_both : Lawful listed → CircularRequired
circular_covers_both laws v u unit value_unit ps n table fit =
    let e = required_exact laws v u unit ps fit value_unit n table in
    (e, exact_least (loss listed v unit ps) (scenario_losses value_unit ps n table) (circular_required (circular_minimum unit (protected_portfolio v ps)) (scenario_values value_unit ps n table)) e)

pub circular_replies : Lawful listed → CircularReplies
circular_replies laws t k =
    let m = t.market in
    let v = variation_of m in (
      λ n at r. least_once _ n _ r.covers (circular_covers laws v m.ceiling (price_unit m) t.positions k.fitting).1,
      λ scenarios table n r. least_once _ n _ r (circular_covers_both laws v m.ceiling (price_unit m) (value_unit m) t.positions scenarios table k.fitting).1,
    )
