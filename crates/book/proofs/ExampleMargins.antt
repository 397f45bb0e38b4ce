-- The worked examples hold: a margin is shown by computing at the corners.
use Rattle.std.proofs.Common.{◌≡◌, ℕ, Bool, true, false, ◌&&◌, ◌||◌, eqb, leb, List, [], ◌∷◌, ℤ, pos, ◌≤ℤ◌, Some, None, Option, refl, subst, arith, MatchOption}
use lib.Signed.{lt_z, le_z}
use borrow.Author.Differences.{ints}
use Rattle.std.specs.List.{AllByRecursion}
use Rattle.std.proofs.ByRecursion.{All-weaker}
use Rattle.std.proofs.lemmas.Bool.{and_parts, or_cases, leb-true, eqb-true}
use Rattle.kinds.specs.Kinds.{Meaning, Lawful}
use Rattle.kinds.specs.ListedOptions.{listed}
use Rattle.kinds.specs.FlexibleOptions.{flexible}
use Rattle.kinds.specs.ListedRules.{listed_lawful}
use Rattle.kinds.specs.FlexibleRules.{flexible_lawful}
use Rattle.book.specs.declared.market.Market.{Market}
use Rattle.book.specs.declared.position.Position.{Position}
use Rattle.book.specs.Prices.{Ahead, Margin, centavos}
use Rattle.book.specs.Losses.{loss, corners, Fitting}
use Rattle.book.specs.Markets.{variation_of, price_unit}
use Rattle.book.specs.Tallies.{Tally, trade_refusal}
use Rattle.book.specs.Examples.{Example, LeadsTo, after_trades, fresh, Shown, listed_margin, flexible_margin, listed_trade, Holds, examples, ExamplesHold}
use Rattle.book.proofs.BookLosses.{loss_worst, loss_everywhere}
use Rattle.book.proofs.MarginAnswers.{margin_some}

-- a test that holds of each
abbrev each : {X : Type 0} → (X → Bool) → List X → Bool
each t [] = true
each t (x ∷ xs) = t x && each t xs

each_true : {X : Type 0} (t : X → Bool) (P : X → Type 0) → ((x : X) → t x ≡ true → P x) → (xs : List X) → each t xs ≡ true → AllByRecursion P xs
each_true t P h [] e = tt
each_true t P h (x ∷ xs) e = let p = and_parts (t x) (each t xs) e in (h x p.0, each_true t P h xs p.1)

abbrev leads : (ℕ → ℤ) → ℕ → ℕ → Bool
leads f p x = le_z (f x) (f p) && (leb p x || lt_z (f x) (f p))

leads_true : (f : ℕ → ℤ) (p x : ℕ) → leads f p x ≡ true → Ahead f p x
leads_true f p x e =
    let b = and_parts (le_z (f x) (f p)) (leb p x || lt_z (f x) (f p)) e in
    let c = or_cases (leb p x) (lt_z (f x) (f p)) b.1 in
    record { no_less = omega (arith, ints); first = λ l. omega (arith, ints, leb-true p x) }

module _ {C : Type 0} (K : Meaning C) where
  abbrev answers : (ℕ → ℤ) → List ℕ → ℕ → Option ℕ → Bool
  answers f cs n None = eqb 0 n && each (λ c. le_z (f c) (pos 0)) (0 ∷ cs)
  answers f cs n (Some p) = eqb (centavos (f p)) n && lt_z (pos 0) (f p) && each (leads f p) (0 ∷ cs)

  module _ (laws : Lawful K) (v u scale : ℕ) (ps : List (Position C)) (f : Fitting K v u ps) where
    margin_none : (n : ℕ) → answers (loss K v scale ps) (corners K v ps) n None ≡ true → Margin (loss K v scale ps) n None
    margin_none n e =
        let a = and_parts (eqb 0 n) (each (λ c. le_z (loss K v scale ps c) (pos 0)) (0 ∷ corners K v ps)) e in
        let low = each_true (λ c. le_z (loss K v scale ps c) (pos 0)) (λ c. loss K v scale ps c ≤ℤ pos 0) (λ c t. omega (arith, ints)) (0 ∷ corners K v ps) a.1 in
        let all = loss_everywhere K laws v u ps f scale (pos 0) low in
        let z = eqb-true 0 n a.0 in
        record { covers = record { holds = λ x. let h = all x in omega (arith, ints); least = λ m c. omega arith }; named = all }

    margin_at : (n p : ℕ) → answers (loss K v scale ps) (corners K v ps) n (Some p) ≡ true → Margin (loss K v scale ps) n (Some p)
    margin_at n p e =
        let l = loss K v scale ps in
        let a = and_parts (eqb (centavos (l p)) n && lt_z (pos 0) (l p)) (each (leads l p) (0 ∷ corners K v ps)) e in
        let b = and_parts (eqb (centavos (l p)) n) (lt_z (pos 0) (l p)) a.0 in
        let w = loss_worst K laws v u ps f scale p (each_true (leads l p) (Ahead l p) (leads_true l p) (0 ∷ corners K v ps) a.1) in
        subst (λ m. Margin l m (Some p)) (eqb-true (centavos (l p)) n b.0) (margin_some l p w (omega (arith, ints, b.1)))

    margin_either : (n : ℕ) (at : Option ℕ) → answers (loss K v scale ps) (corners K v ps) n at ≡ true → Margin (loss K v scale ps) n at
    margin_either n None e = margin_none n e
    margin_either n (Some p) e = margin_at n p e

  -- a test of an example, which computes
  abbrev tested : Market → Option (Tally C) → ℕ → Option ℕ → Bool
  tested m None n at = false
  tested m (Some t) n at = each (λ (p : Position C). K.fits p.contract (variation_of m) m.ceiling) t.positions && answers (loss K (variation_of m) (price_unit m) t.positions) (corners K (variation_of m) t.positions) n at

  tested_true : Lawful K → (m : Market) (o : Option (Tally C)) (n : ℕ) (at : Option ℕ) → tested m o n at ≡ true → MatchOption o ⊥ (λ t. Margin (loss K (variation_of m) (price_unit m) t.positions) n at)
  tested_true laws m None n at h = cc
  tested_true laws m (Some t) n at h =
      let fits : Position C → Bool = λ p. K.fits p.contract (variation_of m) m.ceiling in
      let a = and_parts (each fits t.positions) (answers (loss K (variation_of m) (price_unit m) t.positions) (corners K (variation_of m) t.positions) n at) h in
      let f = each_true fits (λ p. K.fits p.contract (variation_of m) m.ceiling ≡ true) (λ p t. t) t.positions a.0 in
      margin_either laws (variation_of m) m.ceiling (price_unit m) t.positions f n at a.1

  holds : Lawful K → (e : Example C) → tested e.market (after_trades K (fresh e.market) e.trades) e.margin e.at ≡ true → LeadsTo K e
  holds laws e h = tested_true laws e.market (after_trades K (fresh e.market) e.trades) e.margin e.at h

-- What computing an example has to give.
abbrev Computes : Shown → Type 0
Computes (listed_margin e) = tested listed e.market (after_trades listed (fresh e.market) e.trades) e.margin e.at ≡ true
Computes (flexible_margin e) = tested flexible e.market (after_trades flexible (fresh e.market) e.trades) e.margin e.at ≡ true
Computes (listed_trade m c q refusal) = trade_refusal listed (fresh m) c q ≡ refusal

computed : (s : Shown) → Computes s → Holds s
computed (listed_margin e) h = holds listed listed_lawful e h
computed (flexible_margin e) h = holds flexible flexible_lawful e h
computed (listed_trade m c q refusal) h = h

pub examples_hold : ExamplesHold
examples_hold = All-weaker Computes Holds computed examples (refl, (refl, (refl, (refl, (refl, (refl, (refl, (refl, (refl, (refl, (refl, tt)))))))))))
