-- Flexible options keep the six rules.
use Rattle.std.specs.Prelude.{◌≡◌, ℕ, ◌+◌, ◌-◌, ◌*◌, ◌≤◌, min, max, true, ◌&&◌, ◌≢◌, Some, None, Option, ◌==◌, nat_le, nat_lt, refl}
use Rattle.std.proofs.Common.{sym, ap, ap₂, ◌∙◌, arith}
use Rattle.std.proofs.lemmas.Bool.{and_parts, and_from, leb-true, ltb-true, eqb-true, eq-eqb}
use Rattle.kinds.specs.declared.side.Side.{Side}
use Rattle.kinds.specs.declared.side.Side.TheVariants.{Call, Put}
use Rattle.kinds.specs.declared.flexible.Flexible.{Flexible}
use Rattle.kinds.specs.Kinds.{Lawful, StraightAt}
use Rattle.kinds.specs.Sides.{strike_right, side_same}
use Rattle.kinds.specs.FlexibleOptions.{flexible, limiter_right, limiter_fits, limiter_same}
use Rattle.kinds.specs.SameContracts.{Keeps, lawful_by_equality}
use Rattle.kinds.specs.ListedRules.{side_equal, side_reflexive}

-- A payment above the strike k that stops at w. With a limiter m and a variation v it stops at the lesser of the two.
stops : (k w x : ℕ) → 1 ≤ x → k ≢ x → k + w ≢ x → StraightAt (λ y. min (y - k) w) x
stops k w x l a b = omega arith

stopped : (k m v y : ℕ) → k ≤ m → min (min y m - k) v ≡ min (y - k) (min (m - k) v)
stopped k m v y h = omega arith

straight_limited : (k m v x : ℕ) → k ≤ m → 1 ≤ x → k ≢ x → min (k + v) m ≢ x → StraightAt (λ y. min (min y m - k) v) x
straight_limited k m v x h l a b =
    let w = min (m - k) v in
    let e : k + w ≡ min (k + v) m = omega arith in
    ap (λ n. 2 * n) (stopped k m v x h) ∙ stops k w x l a (λ q. b (sym e ∙ q)) ∙ sym (ap₂ (λ p q. p + q) (stopped k m v (x - 1) h) (stopped k m v (x + 1) h))

-- The same below the strike.
stops_below : (k w x : ℕ) → w ≤ k → 1 ≤ x → k ≢ x → k - w ≢ x → StraightAt (λ y. min (k - y) w) x
stops_below k w x h l a b = omega arith

stopped_below : (k m v y : ℕ) → m ≤ k → min (k - max y m) v ≡ min (k - y) (min (k - m) v)
stopped_below k m v y h = omega arith

straight_limited_below : (k m v x : ℕ) → m ≤ k → 1 ≤ x → k ≢ x → max (k - v) m ≢ x → StraightAt (λ y. min (k - max y m) v) x
straight_limited_below k m v x h l a b =
    let w = min (k - m) v in
    let e : k - w ≡ max (k - v) m = omega arith in
    let i : w ≤ k = omega arith in
    ap (λ n. 2 * n) (stopped_below k m v x h) ∙ stops_below k w x i l a (λ q. b (sym e ∙ q)) ∙ sym (ap₂ (λ p q. p + q) (stopped_below k m v (x - 1) h) (stopped_below k m v (x + 1) h))

keeps : (s : Side) (k : ℕ) (m : Option ℕ) (v u : ℕ) → limiter_right s k m ≡ true → limiter_fits s k m v u ≡ true → Keeps flexible (record { side = s; strike = k; limiter = m }) v u
keeps Call k None v u r f =
    let h = leb-true (k + v) u f in
    record {
      at_most_ceiling = λ x l. omega arith;
      lesser_under = λ x. refl;
      few = record { two = omega arith; low = (omega arith, tt) };
      few_under = record { two = omega arith; low = (omega arith, (omega arith, tt)) };
      straight = λ x l a. omega arith;
      straight_under = λ x l a. omega arith;
    }
keeps Call k (Some m) v u r f =
    let h = ltb-true k m (and_parts (nat_lt k m) (nat_le m 20000000) r).0 in
    let i = leb-true m u f in
    record {
      at_most_ceiling = λ x l. omega arith;
      lesser_under = λ x. refl;
      few = record { two = omega arith; low = (omega arith, (omega arith, tt)) };
      few_under = record { two = omega arith; low = (omega arith, (omega arith, tt)) };
      straight = λ x l a. omega arith;
      straight_under = λ x l a. straight_limited k m v x (omega arith) l a.0 a.1.0;
    }
keeps Put k None v u r f =
    let p = and_parts (nat_le v k) (nat_le k u) f in
    let h = leb-true v k p.0 in
    let i = leb-true k u p.1 in
    record {
      at_most_ceiling = λ x l. omega arith;
      lesser_under = λ x. refl;
      few = record { two = omega arith; low = (omega arith, tt) };
      few_under = record { two = omega arith; low = (omega arith, (omega arith, tt)) };
      straight = λ x l a. omega arith;
      straight_under = λ x l a. omega arith;
    }
keeps Put k (Some m) v u r f =
    let h = ltb-true m k r in
    let i = leb-true k u f in
    record {
      at_most_ceiling = λ x l. omega arith;
      lesser_under = λ x. refl;
      few = record { two = omega arith; low = (omega arith, (omega arith, tt)) };
      few_under = record { two = omega arith; low = (omega arith, (omega arith, tt)) };
      straight = λ x l a. omega arith;
      straight_under = λ x l a. straight_limited_below k m v x (omega arith) l a.0 a.1.0;
    }

limiter_equal : (l m : Option ℕ) → limiter_same l m ≡ true → l ≡ m
limiter_equal None None e = refl
limiter_equal None (Some m) e = cc
limiter_equal (Some l) None e = cc
limiter_equal (Some l) (Some m) e = ap Some (eqb-true l m e)

limiter_reflexive : (l : Option ℕ) → limiter_same l l ≡ true
limiter_reflexive None = refl
limiter_reflexive (Some l) = eq-eqb l l refl

equal : (c d : Flexible) → flexible.same c d ≡ true → c ≡ d
equal c d e =
    let p = and_parts (side_same c.side d.side) (c.strike == d.strike && limiter_same c.limiter d.limiter) e in
    let q = and_parts (c.strike == d.strike) (limiter_same c.limiter d.limiter) p.1 in
    let s = side_equal c.side d.side p.0 in
    let k = eqb-true c.strike d.strike q.0 in
    let m = limiter_equal c.limiter d.limiter q.1 in
    λ i. record { side = s i; strike = k i; limiter = m i }

reflexive : (c : Flexible) → flexible.same c c ≡ true
reflexive c =
    and_from (side_same c.side c.side) (c.strike == c.strike && limiter_same c.limiter c.limiter) (side_reflexive c.side)
    (and_from (c.strike == c.strike) (limiter_same c.limiter c.limiter) (eq-eqb c.strike c.strike refl) (limiter_reflexive c.limiter))

fitting : (c : Flexible) (v u : ℕ) → flexible.fits c v u ≡ true → Keeps flexible c v u
fitting c v u f =
    let p = and_parts (strike_right c.strike) (limiter_right c.side c.strike c.limiter && limiter_fits c.side c.strike c.limiter v u) f in
    let q = and_parts (limiter_right c.side c.strike c.limiter) (limiter_fits c.side c.strike c.limiter v u) p.1 in
    keeps c.side c.strike c.limiter v u q.0 q.1

pub flexible_lawful : Lawful flexible
flexible_lawful = lawful_by_equality flexible fitting reflexive equal
