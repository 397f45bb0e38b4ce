-- The six rules for a kind in which the same contracts are equal ones, from the rules of one contract that fits.
use Rattle.std.specs.Prelude.{◌≡◌, ℕ, ◌≤◌, min, true, refl}
use Rattle.std.proofs.Common.{subst}
use Rattle.kinds.specs.Kinds.{Meaning, Lawful, Agree, Few, StraightOff}

-- The first five rules, of one contract under one variation and ceiling.
pub record Keeps {C : Type 0} (m : Meaning C) (c : C) (v u : ℕ) : Type 0 where
  pub at_most_ceiling : (x : ℕ) → x ≤ u → m.payment c x ≤ u
  pub lesser_under : (x : ℕ) → m.payment_under c v x ≡ min (m.payment c x) v
  pub few : Few u (m.corners c)
  pub few_under : Few u (m.corners_under c v)
  pub straight : StraightOff (m.corners c) (m.payment c)
  pub straight_under : StraightOff (m.corners_under c v) (m.payment_under c v)

pub lawful_by_equality : {C : Type 0} (m : Meaning C) → ((c : C) (v u : ℕ) → m.fits c v u ≡ true → Keeps m c v u) → ((c : C) → m.same c c ≡ true) → ((c d : C) → m.same c d ≡ true → c ≡ d) → Lawful m
lawful_by_equality m keeps itself equal = record {
  at_most_ceiling = λ c v u f. (keeps c v u f).at_most_ceiling;
  lesser_under = λ c v u f. (keeps c v u f).lesser_under;
  few_corners = λ c v u f. ((keeps c v u f).few, (keeps c v u f).few_under);
  straight = λ c v u f. (keeps c v u f).straight;
  straight_under = λ c v u f. (keeps c v u f).straight_under;
  sameness = record {
    reflexive = itself;
    symmetric = λ c d e. subst (λ z. m.same z c ≡ true) (equal c d e) (itself c);
    transitive = λ c d e p q. subst (λ z. m.same c z ≡ true) (equal d e q) p;
    agree = λ c d e. subst (Agree m c) (equal c d e) (record { payment = λ x. refl; payment_under = λ v x. refl; corners = refl; corners_under = λ v. refl; fits = λ v u. refl });
  };
}
