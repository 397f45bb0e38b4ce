-- The position lines of a sheet one after another: written ones tell the same positions, and accepted ones are written back.
use Rattle.std.proofs.Common.{◌≡◌, ℕ, zero, suc, ◌*◌, ◌≤◌, eqb, List, [], ◌∷◌, ◌++◌, map, length, ℤ, pos, negsuc, nat_abs, None, sym, refl, ap, ◌∙◌, subst, ap₂, arith, length-append}
use Rattle.std.specs.Option.{option_to_list}
use Rattle.std.specs.Fmt.{signed_decimal}
use Rattle.std.specs.List.{flat_map}
use Rattle.std.proofs.lemmas.Fmt.{length-decimal-le}
use Rattle.std.proofs.lemmas.List.{nil_from_length}
use Rattle.std.proofs.lemmas.Bool.{not-false, eqb-true}
use Rattle.kinds.specs.Kinds.{Meaning}
use Rattle.sheet.specs.Cuts.{after}
use Rattle.sheet.specs.StoredKinds.{Storing, Storable, position_forms}
use Rattle.book.specs.declared.market.Market.{Market}
use Rattle.book.specs.declared.position.Position.{Position}
use Rattle.book.specs.Markets.{variation_of}
use Rattle.book.specs.SheetReading.{past, positions_told, or_fault, position_fault, positions_fault}
use Rattle.book.specs.SheetTexts.{position_line}
use Rattle.book.proofs.FinePositions.{fine_from, fine_none, AllFine}
use Rattle.book.proofs.SheetFaults.{or_both, when_not, well_from, from_well}
use Rattle.book.proofs.SheetLines.{position_reads, position_back}

abbrev pub lines_of : {C : Type 0} → Storing C → List (Position C) → List ℕ
lines_of s ps = flat_map (λ l. l) (map (position_line s) ps)

signed_length : (z : ℤ) → nat_abs z ≤ 10000 → length (signed_decimal z) ≤ 11
signed_length (pos n) l = omega (arith, length-decimal-le 8 n (omega arith) (omega arith) (omega arith))
signed_length (negsuc n) l = omega (arith, length-decimal-le 8 (suc n) (omega arith) (omega arith) (omega arith))

module _ {C : Type 0} (K : Meaning C) (s : Storing C) (laws : Storable K s) (m : Market) where
  pub lines_length : (above ps : List (Position C)) → AllFine K s m above ps → length (lines_of s ps) ≤ 64 * length ps
  lines_length above [] f = omega arith
  lines_length above (p ∷ ps) f =
      let a = length-append (position_line s p) (lines_of s ps) in
      let b = laws.short p.contract (variation_of m) m.ceiling p.net f.0.fits (signed_length p.net f.0.most) in
      omega (arith, a, b, lines_length (above ++ (p ∷ [])) ps f.1)

  pub lines_read : (line : ℕ) (above ps : List (Position C)) → AllFine K s m above ps → (positions_fault K s m (length ps) line above (lines_of s ps) ≡ None) × (positions_told s (length ps) (lines_of s ps) ≡ ps)
  lines_read line above [] f = (refl, refl)
  lines_read line above (p ∷ ps) f =
      let most = f.0.most in
      let r = position_reads K s laws p (variation_of m) m.ceiling (lines_of s ps) f.0.fits (omega arith) in
      let rest = lines_read (suc line) (above ++ (p ∷ [])) ps f.1 in (
        ap₂ or_fault (from_well line (position_forms s.limiter_form) (lines_of s (p ∷ ps)) r.well)
            (ap₂ or_fault (ap (position_fault K s m line above) r.tells ∙ fine_none K s m line above p f.0)
            (ap₂ (λ o bs. positions_fault K s m (length ps) (suc line) (above ++ option_to_list o) bs) r.tells r.on ∙ rest.0)),
        ap₂ (λ o bs. option_to_list o ++ positions_told s (length ps) bs) r.tells r.on ∙ ap (λ qs. p ∷ qs) rest.1,
      )

  -- Lines with no fault: they are written from the positions that they tell, so many as were asked.
  pub record LinesAccepted (n : ℕ) (above : List (Position C)) (bs : List ℕ) (ps : List (Position C)) : Type 0 where
    pub bytes : lines_of s ps ≡ bs
    pub count : length ps ≡ n
    pub fine : AllFine K s m above ps

  pub lines_accepted : (n line : ℕ) (above : List (Position C)) (bs : List ℕ) → positions_fault K s m n line above bs ≡ None → LinesAccepted n above bs (positions_told s n bs)
  lines_accepted zero line above bs h =
      let e = nil_from_length bs (eqb-true (length bs) 0 (not-false (eqb (length bs) 0) (when_not _ _ h))) in
      record { bytes = sym e; count = refl; fine = tt }
  lines_accepted (suc n) line above bs h =
      let rest = past (after 10 bs) in
      let a = or_both _ _ h in
      let b = position_back K s laws bs (well_from line (position_forms s.limiter_form) bs a.0) in
      let p = b.position in
      let c = or_both _ _
      (subst (λ o. or_fault (position_fault K s m line above o) (positions_fault K s m n (suc line) (above ++ option_to_list o) rest) ≡ None) b.told a.1) in
      let d = lines_accepted n (suc line) (above ++ (p ∷ [])) rest c.1 in
      subst (λ o. LinesAccepted (suc n) above bs (option_to_list o ++ positions_told s n rest)) (sym b.told)
      (record { bytes = ap (λ cs. position_line s p ++ cs) d.bytes ∙ b.bytes; count = ap suc d.count; fine = (fine_from K s m line above p c.0, d.fine) })
