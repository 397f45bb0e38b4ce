-- Position lines one after another: one without a fault leaves the answer to those below it, and then to the end of the sheet.
use Rattle.std.proofs.Common.{◌≡◌, ℕ, zero, suc, ◌+◌, ◌-◌, ◌<◌, ◌≤◌, Bool, true, false, cond, not, eqb, ltb, List, [], ◌∷◌, ◌++◌, length, drop, nat_abs, Some, None, Ok, Err, Option, Result, sym, refl, ap, ◌∙◌, subst, ap₂, append_assoc, append-nil, ⊎_elim, arith, length-drop}
use Rattle.std.specs.Option.{option_to_list}
use Rattle.std.proofs.lemmas.Bool.{cases_lt, eq-eqb, ne_eqb, or_parts, ltb-false}
use Rattle.kinds.specs.Kinds.{Meaning}
use Rattle.sheet.specs.declared.fault.Fault.{Fault}
use Rattle.sheet.specs.declared.fault.Fault.TheVariants as fault
use Rattle.sheet.specs.declared.fault.LineCause.TheVariants as line_cause
use Rattle.sheet.specs.declared.reader.Reader.{Reader}
use Rattle.sheet.specs.Cuts.{after}
use Rattle.sheet.specs.StoredKinds.{Storing, position_forms}
use Rattle.book.specs.declared.market.Market.{Market}
use Rattle.book.specs.declared.position.Position.{Position}
use Rattle.book.specs.Losses.{gross}
use Rattle.book.specs.Markets.{outside}
use Rattle.book.specs.SheetReading.{contracts_of, joined_fault, past, after_lines, unread, or_fault, malformed, when, contract_fault, own_fault, position_told, positions_told, position_fault, positions_fault, ReadOn, Checked}
use Rattle.book.proofs.SheetFaults.{or_both, when_not}
use Rattle.book.proofs.ReadingLines.{passes, stops, after_after, Gone, goes_on, tells_there}

pub told_most : {C : Type 0} (s : Storing C) (n : ℕ) (bs : List ℕ) → length (positions_told s n bs) ≤ n
told_most s zero bs = omega arith
told_most s (suc n) bs =
    let rest = told_most s n (past (after 10 bs)) in
    elim (position_told s bs) as (λ o. length (option_to_list o ++ positions_told s n (past (after 10 bs))) ≤ suc n) [
      | None ↦ omega arith
      | Some p ↦ omega arith
    ]

told_more : {C : Type 0} (s : Storing C) (n : ℕ) (bs : List ℕ) → positions_told s (suc n) bs ≡ positions_told s n bs ++ option_to_list (position_told s (after_lines n bs))
told_more s zero bs = append-nil (option_to_list (position_told s bs))
told_more s (suc n) bs = ap (λ ps. option_to_list (position_told s bs) ++ ps) (told_more s n (past (after 10 bs))) ∙ sym (append_assoc (option_to_list (position_told s bs)) (positions_told s n (past (after 10 bs))) (option_to_list (position_told s (after_lines (suc n) bs))))

-- A position's test by the count and the contracts of those above it.
pub same_test : {C : Type 0} (K : Meaning C) (s : Storing C) (m : Market) (above : List (Position C)) (p : Position C) {line l contracts : ℕ} {seen : List C} → line ≡ l → contracts ≡ gross above → seen ≡ contracts_of above → joined_fault K s m line contracts seen p ≡ position_fault K s m l above (Some p)
same_test K s m above p e n c = λ j. joined_fault K s m (e j) (n j) (c j) p

-- A reader goes over the lines of so many positions from where r0 stands.
module _ {C : Type 0} (K : Meaning C) (s : Storing C) (m : Market) (count : ℕ) (r0 : Reader) where
  abbrev pub first_fault : Option Fault
  first_fault = positions_fault K s m count (r0.lines + 1) [] (unread r0)

  -- The first i positions.
  abbrev pub above : ℕ → List (Position C)
  above i = positions_told s i (unread r0)

  -- They were read, and those left decide.
  abbrev pub Passed : ℕ → Reader → Type 0
  Passed i r = Gone r0.lines r0 i r first_fault (positions_fault K s m (count - i) (r0.lines + i + 1) (above i) (after_lines i (unread r0)))

  pub none_passed : Passed 0 r0
  none_passed =
      let n : count ≡ count - 0 = omega arith in
      let l : r0.lines + 1 ≡ r0.lines + 0 + 1 = omega arith in
      record { same = refl; at = refl; lines = omega arith; is = ap₂ (λ k i. positions_fault K s m k i [] (unread r0)) n l }

  pub all_passed : (i : ℕ) (r : Reader) → Passed i r → count ≤ i → first_fault ≡ when (not (eqb (length (unread r)) 0)) (fault.Field (r.lines + 1) 1)
  all_passed i r g h =
      let none : count - i ≡ 0 = omega arith in
      g.is ∙ ap (λ n. positions_fault K s m n (r0.lines + i + 1) (above i) (after_lines i (unread r0))) none
      ∙ ap₂ (λ l b. when (not (eqb (length b) 0)) (fault.Field (l + 1) 1)) (sym g.lines) (sym g.at)

  -- The tests of the position o in the line after i of them, and those below it.
  abbrev pub tests : ℕ → Option (Position C) → Option Fault
  tests i o = or_fault (position_fault K s m (r0.lines + i + 1) (above i) o) (positions_fault K s m (count - (i + 1)) (suc (r0.lines + i + 1)) (above i ++ option_to_list o) (past (after 10 (after_lines i (unread r0)))))

  module _ (i : ℕ) (r : Reader) (h : i < count) (g : Passed i r) where
    pub next_line : Gone r0.lines r0 i r first_fault (or_fault (malformed (r0.lines + i + 1) (position_forms s.limiter_form) (after_lines i (unread r0))) (tests i (position_told s (after_lines i (unread r0)))))
    next_line =
        let n : count - i ≡ suc (count - (i + 1)) = omega arith in
        record { same = g.same; at = g.at; lines = g.lines; is = g.is ∙ ap (λ k. positions_fault K s m k (r0.lines + i + 1) (above i) (after_lines i (unread r0))) n }

    module _ (r' : Reader) (p : Position C) (t : ReadOn 1 (λ line. malformed line (position_forms s.limiter_form)) (λ bs q. position_told s bs ≡ Some q) r r' (Ok p)) where
      line_passed : Gone r0.lines r0 (i + 1) r' first_fault (tests i (Some p))
      line_passed = subst (λ o. Gone r0.lines r0 (i + 1) r' first_fault (tests i o)) (tells_there t g) (goes_on t next_line)

      same_line : position_fault K s m (r.lines + 1) (above i) (Some p) ≡ position_fault K s m (r0.lines + i + 1) (above i) (Some p)
      same_line = ap (λ l. position_fault K s m (l + 1) (above i) (Some p)) g.lines

      pub more : above (i + 1) ≡ above i ++ p ∷ []
      more =
          let e : i + 1 ≡ suc i = omega arith in
          ap above e ∙ told_more s i (unread r0) ∙ ap (λ o. above i ++ option_to_list o) (tells_there t g)

      -- The position's fault is the first of all; without one it is passed.
      pub position_stops : (e : Fault) → position_fault K s m (r.lines + 1) (above i) (Some p) ≡ Some e → first_fault ≡ Some e
      position_stops e f = line_passed.is ∙ stops _ _ e (sym same_line ∙ f)

      pub position_passes : position_fault K s m (r.lines + 1) (above i) (Some p) ≡ None → Passed (i + 1) r'
      position_passes f =
          let l : suc (r0.lines + i + 1) ≡ r0.lines + (i + 1) + 1 = omega arith in
          record {
            same = line_passed.same;
            at = line_passed.at;
            lines = line_passed.lines;
            is = line_passed.is ∙ passes _ _ (sym same_line ∙ f) ∙ λ j. positions_fault K s m (count - (i + 1)) (l j) (sym more j) (after_after i 1 (unread r0) j);
          }

      pub position_good : first_fault ≡ None → position_fault K s m (r.lines + 1) (above i) (Some p) ≡ None
      position_good none = same_line ∙ (or_both _ _ (sym line_passed.is ∙ none)).0

-- The end of the sheet.
ends : (b : Bool) (f : Fault) → Checked (when (not b) f) (cond b (Ok tt) (Err f))
ends true f = (refl, tt)
ends false f = refl

same_end : (at : ℕ) (bs : List ℕ) → at ≤ length bs → eqb at (length bs) ≡ eqb (length (drop at bs)) 0
same_end at bs h = ⊎_elim
    (λ l. ne_eqb _ _ (λ e. omega arith) ∙ sym (ne_eqb _ _ (λ e. omega (arith, length-drop at bs))))
    (λ l. eq-eqb _ _ (omega arith) ∙ sym (eq-eqb _ _ (omega (arith, length-drop at bs))))
    (cases_lt at (length bs))

pub end_checked : (r : Reader) (x : Result (Unit {0}) Fault) → x ≡ cond (eqb r.at (length r.sheet.now)) (Ok tt) (Err (fault.Field (r.lines + 1) 1)) → Checked (when (not (eqb (length (unread r)) 0)) (fault.Field (r.lines + 1) 1)) x
end_checked r x e =
    let f = fault.Field (r.lines + 1) 1 in
    subst (Checked (when (not (eqb (length (unread r)) 0)) f)) (sym (e ∙ ap (λ b. cond b (Ok tt) (Err f)) (same_end r.at r.sheet.now r.inside.0))) (ends (eqb (length (unread r)) 0) f)

module _ {C : Type 0} (K : Meaning C) where
  -- What the tests say of the quantity.
  module _ (s : Storing C) (m : Market) (line : ℕ) (p : Position C) (h : own_fault K s m line p ≡ None) where
    own_size : (ltb (nat_abs p.net) 1 ≡ false) × (ltb 10000 (nat_abs p.net) ≡ false)
    own_size =
        let a = or_both (contract_fault line (s.refusal p.contract)) _ h in
        let b = or_both (when (outside (nat_abs p.net) 1 10000) (fault.Line line line_cause.Quantity)) _ a.1 in
        or_parts (ltb (nat_abs p.net) 1) (ltb 10000 (nat_abs p.net)) (when_not _ _ b.0)

    pub own_some : 1 ≤ nat_abs p.net
    own_some = ltb-false (nat_abs p.net) 1 own_size.0

    pub own_most : nat_abs p.net ≤ 10000
    own_most = ltb-false 10000 (nat_abs p.net) own_size.1
