-- What trades and market changes keep, and that trades add up.
use Rattle.std.proofs.Common.{◌≡◌, ℕ, zero, suc, Bool, true, false, cond, not, List, [], ◌∷◌, ℤ, pos, negsuc, ◌+ℤ◌, Some, None, Option, sym, refl, ap, arith}
use borrow.Author.Differences.{ints}
use Rattle.std.specs.List.{AllByRecursion}
use Rattle.std.specs.Option.{option_map}
use Rattle.std.proofs.ByRecursion.{All-weaker}
use Rattle.std.proofs.lemmas.Bool.{not-false}
use Rattle.kinds.specs.Kinds.{Meaning, Lawful}
use Rattle.book.specs.declared.position.Position.{Position}
use Rattle.book.specs.declared.refusal.Refusal.{Refusal}
use Rattle.book.specs.Losses.{Fitting, Distinct}
use Rattle.book.specs.Markets.{market_refusal, variation_of}
use Rattle.book.specs.Tallies.{Tally, Kept, or_else, holding, first_unfit}
use Rattle.book.specs.Theorems.{TradesKeep, ChangesKeep, TradesAddUp}
use Rattle.book.specs.Trades.{put, traded, net_in}
use Rattle.book.proofs.FoundPlaces.{none_passes}
use Rattle.book.proofs.TradeEffects.{traded_fitting}

past : {X : Type 0} (b : Bool) (x : X) (o : Option X) → cond b (Some x) o ≡ None → (b ≡ false) × (o ≡ None)
past true x o h = cc
past false x o h = (refl, h)

same_bool : (a b : Bool) → (a ≡ true → b ≡ true) → (b ≡ true → a ≡ true) → a ≡ b
same_bool true b f g = sym (f refl)
same_bool false true f g = g refl
same_bool false false f g = refl

module _ {C : Type 0} (K : Meaning C) where
  -- another position with the same contract is as far from p
  put_apart : (p : C) (c : C) (z : ℤ) (ps : List (Position C)) → K.same p c ≡ false → AllByRecursion (λ r. K.same p r.contract ≡ false) ps → AllByRecursion (λ r. K.same p r.contract ≡ false) (put c z ps)
  put_apart p c (pos zero) ps h a = a
  put_apart p c (pos (suc n)) ps h a = (h, a)
  put_apart p c (negsuc n) ps h a = (h, a)

  traded_apart : (p c : C) (q : ℤ) (ps : List (Position C)) → K.same p c ≡ false → AllByRecursion (λ r. K.same p r.contract ≡ false) ps → AllByRecursion (λ r. K.same p r.contract ≡ false) (traded K c q ps)
  traded_apart p c q [] h a = put_apart p c q [] h tt
  traded_apart p c q (o ∷ ps) h a =
      let rest = traded_apart p c q ps h a.1 in
      elim (K.same o.contract c) as (λ t. AllByRecursion (λ r. K.same p r.contract ≡ false) (cond t (put o.contract (o.net +ℤ q) ps) (o ∷ traded K c q ps))) [
        | true ↦ put_apart p o.contract (o.net +ℤ q) ps a.0 a.1
        | false ↦ (a.0, rest)
      ]

  put_distinct : (c : C) (z : ℤ) (ps : List (Position C)) → AllByRecursion (λ r. K.same c r.contract ≡ false) ps → Distinct K ps → Distinct K (put c z ps)
  put_distinct c (pos zero) ps a d = d
  put_distinct c (pos (suc n)) ps a d = (a, d)
  put_distinct c (negsuc n) ps a d = (a, d)

  at_head : (c : C) (q : ℤ) (p : Position C) (ps : List (Position C)) (t : Bool) → K.same p.contract c ≡ t → AllByRecursion (λ r. K.same p.contract r.contract ≡ false) ps → Distinct K ps → Distinct K (traded K c q ps) → Distinct K (cond t (put p.contract (p.net +ℤ q) ps) (p ∷ traded K c q ps))
  at_head c q p ps true e a d rest = put_distinct p.contract (p.net +ℤ q) ps a d
  at_head c q p ps false e a d rest = (traded_apart p.contract c q ps e a, rest)

  traded_distinct : (c : C) (q : ℤ) (ps : List (Position C)) → Distinct K ps → Distinct K (traded K c q ps)
  traded_distinct c q [] d = put_distinct c q [] tt tt
  traded_distinct c q (p ∷ ps) d = at_head c q p ps (K.same p.contract c) refl d.0 d.1 (traded_distinct c q ps d.1)

  -- a trade in a contract that fits keeps the tally
  pub traded_kept : (t : Tally C) (c : C) (q : ℤ) → Kept K t → K.fits c (variation_of t.market) t.market.ceiling ≡ true → Kept K (holding t (traded K c q t.positions))
  traded_kept t c q k fits =
      record { fitting = traded_fitting K (variation_of t.market) t.market.ceiling c q t.positions fits k.fitting; distinct = traded_distinct c q t.positions k.distinct }

  pub trades_keep : TradesKeep K
  trades_keep t c q k h =
      let a = past _ _ _ h in
      let b = past _ _ _ a.1 in
      traded_kept t c q k (not-false (K.fits c (variation_of t.market) t.market.ceiling) b.0)

  none_mapped : {X Y : Type 0} (f : X → Y) (o : Option X) → option_map f o ≡ None → o ≡ None
  none_mapped f None h = refl
  none_mapped f (Some x) h = cc

  pub all_fit : (v u : ℕ) (ps : List (Position C)) → first_unfit K v u ps ≡ None → Fitting K v u ps
  all_fit v u ps h =
      All-weaker _ _ (λ p n. not-false (K.fits p.contract v u) n) ps (none_passes (λ p. not (K.fits p.contract v u)) ps h)

  or_past : (a b : Option Refusal) → or_else a b ≡ None → b ≡ None
  or_past None b h = h
  or_past (Some e) b h = cc

  pub changes_keep : ChangesKeep K
  changes_keep t m k h =
      record { fitting = all_fit (variation_of m) m.ceiling t.positions (none_mapped _ _ (or_past (market_refusal m) _ h)); distinct = k.distinct }

  module _ (laws : Lawful K) where
    -- a contract that is the same as c is the same as what c is
    same_as : (p c d : C) → K.same p c ≡ true → K.same p d ≡ K.same c d
    same_as p c d e =
        same_bool (K.same p d) (K.same c d)
        (λ h. laws.sameness.transitive c p d (laws.sameness.symmetric p c e) h)
        (λ h. laws.sameness.transitive p c d e h)

    put_net : (d c : C) (z : ℤ) (ps : List (Position C)) → net_in K d (put c z ps) ≡ cond (K.same c d) z (pos 0) +ℤ net_in K d ps
    put_net d c (pos zero) ps = elim (K.same c d) as (λ t. net_in K d ps ≡ cond t (pos 0) (pos 0) +ℤ net_in K d ps) [ true ↦ omega (arith, ints) | false ↦ omega (arith, ints) ]
    put_net d c (pos (suc n)) ps = refl
    put_net d c (negsuc n) ps = refl

    split : (t : Bool) (a b : ℤ) → cond t (a +ℤ b) (pos 0) ≡ cond t a (pos 0) +ℤ cond t b (pos 0)
    split true a b = refl
    split false a b = refl

    add_head : (c d : C) (q : ℤ) (p : Position C) (ps : List (Position C)) (t : Bool) → K.same p.contract c ≡ t → net_in K d (traded K c q ps) ≡ net_in K d ps +ℤ cond (K.same c d) q (pos 0) → net_in K d (cond t (put p.contract (p.net +ℤ q) ps) (p ∷ traded K c q ps)) ≡ net_in K d (p ∷ ps) +ℤ cond (K.same c d) q (pos 0)
    add_head c d q p ps true e rest =
        let a = put_net d p.contract (p.net +ℤ q) ps in
        let s = split (K.same p.contract d) p.net q in
        let b = ap (λ t. cond t q (pos 0)) (same_as p.contract c d e) in
        omega (arith, ints, a, s, b)
    add_head c d q p ps false e rest = omega (arith, ints, rest)

    pub trades_add_up : TradesAddUp K
    trades_add_up [] c d q = let a = put_net d c q [] in omega (arith, ints, a)
    trades_add_up (p ∷ ps) c d q = add_head c d q p ps (K.same p.contract c) refl (trades_add_up ps c d q)
