-- Listed options keep the six rules.
use Rattle.std.specs.Prelude.{◌≡◌, ℕ, ◌+◌, true, ◌==◌, nat_le, refl}
use Rattle.std.proofs.Common.{arith}
use Rattle.std.proofs.lemmas.Bool.{and_parts, and_from, leb-true, eqb-true, eq-eqb}
use Rattle.kinds.specs.declared.side.Side.{Side}
use Rattle.kinds.specs.declared.side.Side.TheVariants.{Call, Put}
use Rattle.kinds.specs.declared.listed.Listed.{Listed}
use Rattle.kinds.specs.Kinds.{Lawful}
use Rattle.kinds.specs.Sides.{side_fits, strike_right, side_same}
use Rattle.kinds.specs.ListedOptions.{listed}
use Rattle.kinds.specs.SameContracts.{Keeps, lawful_by_equality}

keeps : (s : Side) (k v u : ℕ) → side_fits s k v u ≡ true → Keeps listed (record { side = s; strike = k }) v u
keeps Call k v u f =
    let h = leb-true (k + v) u f in
    record {
      at_most_ceiling = λ x l. omega arith;
      lesser_under = λ x. refl;
      few = record { two = omega arith; low = (omega arith, tt) };
      few_under = record { two = omega arith; low = (omega arith, (omega arith, tt)) };
      straight = λ x l a. omega arith;
      straight_under = λ x l a. omega arith;
    }
keeps Put k v u f =
    let p = and_parts (nat_le v k) (nat_le k u) f in
    let h = leb-true v k p.0 in
    let i = leb-true k u p.1 in
    record {
      at_most_ceiling = λ x l. omega arith;
      lesser_under = λ x. refl;
      few = record { two = omega arith; low = (omega arith, tt) };
      few_under = record { two = omega arith; low = (omega arith, (omega arith, tt)) };
      straight = λ x l a. omega arith;
      straight_under = λ x l a. omega arith;
    }

pub side_equal : (s t : Side) → side_same s t ≡ true → s ≡ t
side_equal Call Call e = refl
side_equal Call Put e = cc
side_equal Put Call e = cc
side_equal Put Put e = refl

pub side_reflexive : (s : Side) → side_same s s ≡ true
side_reflexive Call = refl
side_reflexive Put = refl

equal : (c d : Listed) → listed.same c d ≡ true → c ≡ d
equal c d e =
    let p = and_parts (side_same c.side d.side) (c.strike == d.strike) e in
    let s = side_equal c.side d.side p.0 in
    let k = eqb-true c.strike d.strike p.1 in
    λ i. record { side = s i; strike = k i }

reflexive : (c : Listed) → listed.same c c ≡ true
reflexive c = and_from (side_same c.side c.side) (c.strike == c.strike) (side_reflexive c.side) (eq-eqb c.strike c.strike refl)

pub listed_lawful : Lawful listed
listed_lawful =
    lawful_by_equality listed
    (λ c v u f. keeps c.side c.strike v u (and_parts (strike_right c.strike) (side_fits c.side c.strike v u) f).1)
    reflexive equal
