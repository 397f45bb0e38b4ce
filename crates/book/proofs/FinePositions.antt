-- Positions that may stand one after another in a sheet, and that these are the positions of a book that keeps the rules.
use Rattle.std.proofs.Common.{◌≡◌, ℕ, ◌+◌, ◌≤◌, true, false, not, ltb, leb, List, [], ◌∷◌, ◌++◌, nat_abs, Some, None, Option, sym, refl, ap, subst, ap₂, append_assoc, append-nil, arith}
use Rattle.std.specs.List.{AllByRecursion}
use Rattle.std.proofs.ByRecursion.{All-push}
use Rattle.std.proofs.lemmas.Bool.{and_parts, and_from, or_parts, or_from, not-false, leb-true, le-leb, ltb-false, le-ltb}
use Rattle.kinds.specs.Kinds.{Meaning}
use Rattle.kinds.specs.declared.contract_refusal.ContractRefusal.{ContractRefusal}
use Rattle.sheet.specs.declared.fault.Fault.TheVariants as fault
use Rattle.sheet.specs.declared.fault.LineCause.TheVariants as line_cause
use Rattle.sheet.specs.declared.fault.BookCause.TheVariants as book_cause
use Rattle.sheet.specs.StoredKinds.{Storing, Storable}
use Rattle.book.specs.declared.market.Market.{Market}
use Rattle.book.specs.declared.position.Position.{Position}
use Rattle.book.specs.Losses.{gross, all_held, Fitting, Distinct}
use Rattle.book.specs.Markets.{variation_of}
use Rattle.book.specs.SheetReading.{or_fault, named, contracts_of, contract_fault, position_fault}
use Rattle.book.specs.Tallies.{Kept}
use Rattle.book.proofs.SheetFaults.{or_both, when_not, not_when, inside}
use Rattle.book.proofs.TradedLists.{gross_append}

module _ {C : Type 0} (K : Meaning C) (s : Storing C) (m : Market) where
  -- A position that may stand after those above it.
  pub record Fine (above : List (Position C)) (p : Position C) : Type 0 where
    pub right : s.refusal p.contract ≡ None
    pub some : 1 ≤ nat_abs p.net
    pub most : nat_abs p.net ≤ 10000
    pub fits : K.fits p.contract (variation_of m) m.ceiling ≡ true
    pub few : gross above + nat_abs p.net ≤ 10000
    pub new : named K p.contract (contracts_of above) ≡ false

  refused_none : (line : ℕ) (o : Option ContractRefusal) → contract_fault line o ≡ None → o ≡ None
  refused_none line None h = refl
  refused_none line (Some e) h = cc

  pub fine_from : (line : ℕ) (above : List (Position C)) (p : Position C) → position_fault K s m line above (Some p) ≡ None → Fine above p
  fine_from line above p h =
      let o = or_both _ _ h in
      let a = or_both _ _ o.0 in
      let b = or_both _ _ a.1 in
      let d = or_both _ _ o.1 in
      let q = or_parts (ltb (nat_abs p.net) 1) (ltb 10000 (nat_abs p.net)) (when_not _ _ b.0) in
      record {
        right = refused_none line (s.refusal p.contract) a.0;
        some = ltb-false (nat_abs p.net) 1 q.0;
        most = ltb-false 10000 (nat_abs p.net) q.1;
        fits = not-false (K.fits p.contract (variation_of m) m.ceiling) (when_not _ _ b.1);
        few = ltb-false 10000 (gross above + nat_abs p.net) (when_not _ _ d.0);
        new = when_not _ _ d.1;
      }

  pub fine_none : (line : ℕ) (above : List (Position C)) (p : Position C) → Fine above p → position_fault K s m line above (Some p) ≡ None
  fine_none line above p f =
      ap₂ or_fault
      (ap₂ or_fault (ap (contract_fault line) f.right)
      (ap₂ or_fault (not_when _ (fault.Line line line_cause.Quantity) (inside (nat_abs p.net) 1 10000 f.some f.most))
      (not_when _ (fault.Book line book_cause.DoesNotFit) (ap not f.fits))))
      (ap₂ or_fault (not_when _ (fault.Book line book_cause.Contracts) (le-ltb 10000 (gross above + nat_abs p.net) f.few))
      (not_when _ (fault.Book line book_cause.NamedTwice) f.new))

  -- Each position may stand after those before it.
  abbrev pub AllFine : List (Position C) → List (Position C) → Type 0
  AllFine above [] = Unit {0}
  AllFine above (p ∷ ps) = Fine above p × AllFine (above ++ (p ∷ [])) ps

  pub fine_fitting : (above ps : List (Position C)) → AllFine above ps → Fitting K (variation_of m) m.ceiling ps
  fine_fitting above [] f = tt
  fine_fitting above (p ∷ ps) f = (f.0.fits, fine_fitting (above ++ (p ∷ [])) ps f.1)

  pub fine_held : (above ps : List (Position C)) → AllFine above ps → all_held ps ≡ true
  fine_held above [] f = refl
  fine_held above (p ∷ ps) f = and_from (leb 1 (nat_abs p.net)) (all_held ps) (le-leb 1 (nat_abs p.net) f.0.some) (fine_held (above ++ (p ∷ [])) ps f.1)

  pub fine_gross : (above ps : List (Position C)) → gross above ≤ 10000 → AllFine above ps → gross above + gross ps ≤ 10000
  fine_gross above [] l f = omega arith
  fine_gross above (p ∷ ps) l f =
      let e = gross_append above (p ∷ []) in
      let n = f.0.few in
      omega (arith, e, fine_gross (above ++ (p ∷ [])) ps (omega (arith, e, n)) f.1)

  distinct_push : (above : List (Position C)) (p : Position C) → Distinct K above → named K p.contract (contracts_of above) ≡ false → Distinct K (above ++ (p ∷ []))
  distinct_push [] p d h = (tt, tt)
  distinct_push (a ∷ above) p d h =
      let b = or_parts (K.same a.contract p.contract) (named K p.contract (contracts_of above)) h in
      (All-push (λ q. K.same a.contract q.contract ≡ false) above p d.0 b.0, distinct_push above p d.1 b.1)

  pub fine_distinct : (above ps : List (Position C)) → Distinct K above → AllFine above ps → Distinct K (above ++ ps)
  fine_distinct above [] d f = subst (Distinct K) (sym (append-nil above)) d
  fine_distinct above (p ∷ ps) d f = subst (Distinct K) (append_assoc above (p ∷ []) ps) (fine_distinct (above ++ (p ∷ [])) ps (distinct_push above p d f.0.new) f.1)

  -- A position without a fault may stand after those above it.
  pub fine_push : (places : ℕ) (above : List (Position C)) (p : Position C) → Fine above p → Kept K (record { places = places; market = m; positions = above }) → Kept K (record { places = places; market = m; positions = above ++ (p ∷ []) })
  fine_push places above p f k =
      record { fitting = All-push _ above p k.fitting f.fits; distinct = distinct_push above p k.distinct f.new }

  -- And back, from the rules that a book keeps.
  all_there : (P : Position C → Type 0) (xs ys : List (Position C)) (y : Position C) → AllByRecursion P (xs ++ (y ∷ ys)) → P y
  all_there P [] ys y h = h.0
  all_there P (x ∷ xs) ys y h = all_there P xs ys y h.1

  not_named : (above ps : List (Position C)) (p : Position C) → Distinct K (above ++ (p ∷ ps)) → named K p.contract (contracts_of above) ≡ false
  not_named [] ps p d = refl
  not_named (a ∷ above) ps p d = or_from (K.same a.contract p.contract) (named K p.contract (contracts_of above)) (all_there (λ q. K.same a.contract q.contract ≡ false) above ps p d.0) (not_named above ps p d.1)

  pub all_fine : Storable K s → (above ps : List (Position C)) → Fitting K (variation_of m) m.ceiling ps → all_held ps ≡ true → gross above + gross ps ≤ 10000 → Distinct K (above ++ ps) → AllFine above ps
  all_fine laws above [] fits held few d = tt
  all_fine laws above (p ∷ ps) fits held few d =
      let h = and_parts (leb 1 (nat_abs p.net)) (all_held ps) held in (
        record {
          right = laws.in_range p.contract (variation_of m) m.ceiling fits.0;
          some = leb-true 1 (nat_abs p.net) h.0;
          most = omega arith;
          fits = fits.0;
          few = omega arith;
          new = not_named above ps p d;
        },
        all_fine laws (above ++ (p ∷ [])) ps fits.1 h.1 (omega (arith, gross_append above (p ∷ []))) (subst (Distinct K) (sym (append_assoc above (p ∷ []) ps)) d),
      )
