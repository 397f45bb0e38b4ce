-- Reading a sheet one line after another: faults that are passed, and the one that stops.
use Rattle.std.proofs.Common.{◌≡◌, ℕ, zero, suc, ◌+◌, List, IsErrAnd, Some, None, Ok, Err, Option, Result, sym, refl, ap, ◌∙◌, subst, ap₂, arith, zero-add}
use Rattle.std.specs.Result.{IsOk}
use Rattle.std.proofs.lemmas.Option.{none-some}
use Rattle.sheet.specs.declared.fault.Fault.{Fault}
use Rattle.sheet.specs.declared.reader.Reader.{Reader}
use Rattle.sheet.specs.Cuts.{after}
use Rattle.book.specs.SheetReading.{past, after_lines, or_fault, unread, Tested, ReadOn, CheckedOn}

-- A fault found below is told on by `?`.
pub found_fault : {X : Type 0} (first : Option Fault) (P : X → Type 0) (r : Result X Fault) (e : Fault) → first ≡ Some e → IsErrAnd r (λ f. f ≡ e) → Tested first P r
found_fault first P (Ok x) e h is = absurd is
found_fault first P (Err f) e h is = h ∙ ap Some (sym is)

pub passes : (a b : Option Fault) → a ≡ None → or_fault a b ≡ b
passes a b p = ap (λ f. or_fault f b) p

pub stops : (a b : Option Fault) (e : Fault) → a ≡ Some e → or_fault a b ≡ Some e
stops a b e p = ap (λ f. or_fault f b) p

pub after_after : (k n : ℕ) (bs : List ℕ) → after_lines n (after_lines k bs) ≡ after_lines (k + n) bs
after_after zero n bs = ap (λ m. after_lines m bs) (sym (zero-add n))
after_after (suc k) n bs = after_after k n (past (after 10 bs)) ∙ ap (λ m. after_lines m bs) (let e : suc (k + n) ≡ suc k + n = omega arith in e)

-- The reader went k lines down from where r0 stands, behind l0 lines, and all tests come to those that are left.
pub record Gone (l0 : ℕ) (r0 : Reader) (k : ℕ) (r : Reader) (all left : Option Fault) : Type 0 where
  pub same : r.sheet.now ≡ r0.sheet.now
  pub at : unread r ≡ after_lines k (unread r0)
  pub lines : r.lines ≡ l0 + k
  pub is : all ≡ left

pub starts : (l0 : ℕ) (r0 : Reader) (all : Option Fault) → r0.lines ≡ l0 → Gone l0 r0 0 r0 all all
starts l0 r0 all h = record { same = refl; at = refl; lines = omega arith; is = refl }

-- A test of the line before the reader is one of the line after k lines.
there : {X : Type 0} {l0 k : ℕ} {r0 r : Reader} {all left : Option Fault} (f : ℕ → List ℕ → X) → Gone l0 r0 k r all left → f (r.lines + 1) (unread r) ≡ f (l0 + k + 1) (after_lines k (unread r0))
there f g = ap₂ (λ l b. f (l + 1) b) g.lines g.at

-- Lines were read where their test comes first of those that are left.
module _ {X : Type 0} {n k l0 : ℕ} {fault : ℕ → List ℕ → Option Fault} {Tells : List ℕ → X → Type 0} {r0 old new : Reader} {all : Option Fault} where
  pub goes_on : {left : Option Fault} {x : X} → ReadOn n fault Tells old new (Ok x) → Gone l0 r0 k old all (or_fault (fault (l0 + k + 1) (after_lines k (unread r0))) left) → Gone l0 r0 (k + n) new all left
  goes_on t g = record {
    same = t.same ∙ g.same;
    at = t.told.1.at ∙ ap (after_lines n) g.at ∙ after_after k n (unread r0);
    lines = omega (arith, t.told.1.lines, g.lines);
    is = g.is ∙ passes _ _ (sym (there fault g) ∙ t.told.0);
  }

  pub tells_there : {left : Option Fault} {x : X} → ReadOn n fault Tells old new (Ok x) → Gone l0 r0 k old all left → Tells (after_lines k (unread r0)) x
  tells_there {x = x} t g = subst (λ b. Tells b x) g.at t.told.1.tells

  pub stops_at : {e : Fault} (left : Option Fault) → ReadOn n fault Tells old new (Err e) → Gone l0 r0 k old all (or_fault (fault (l0 + k + 1) (after_lines k (unread r0))) left) → all ≡ Some e
  stops_at {e = e} left t g = g.is ∙ stops _ _ e (sym (there fault g) ∙ t.told)

  -- Such a fault is told on by `?`, out of a check and out of a reading of m lines.
  pub check_stops : {r : Result (Unit {0}) Fault} {e : Fault} (left : Option Fault) → ReadOn n fault Tells old new (Err e) → Gone l0 r0 k old all (or_fault (fault (l0 + k + 1) (after_lines k (unread r0))) left) → IsErrAnd r (λ f. f ≡ e) → CheckedOn all r0 new r
  check_stops {r = r} {e = e} left t g is = record { same = t.same ∙ g.same; told = found_fault _ _ r e (stops_at left t g) is }

  -- Where all tests pass, reading does not fail.
  pub reads_well : (left : Option Fault) (r : Result X Fault) → ReadOn n fault Tells old new r → Gone l0 r0 k old all (or_fault (fault (l0 + k + 1) (after_lines k (unread r0))) left) → all ≡ None → IsOk r
  reads_well left (Ok x) t g none = refl
  reads_well left (Err e) t g none = absurd (none-some e (sym none ∙ stops_at left t g))

pub reading_stops : {X Y : Type 0} {n m k l0 : ℕ} {fault faults : ℕ → List ℕ → Option Fault} {Tells : List ℕ → X → Type 0} {Told : List ℕ → Y → Type 0} {r0 old new : Reader} {r : Result Y Fault} {e : Fault} (left : Option Fault) → ReadOn n fault Tells old new (Err e) → Gone l0 r0 k old (faults (r0.lines + 1) (unread r0)) (or_fault (fault (l0 + k + 1) (after_lines k (unread r0))) left) → IsErrAnd r (λ f. f ≡ e) → ReadOn m faults Told r0 new r
reading_stops {r = r} {e = e} left t g is = record { same = t.same ∙ g.same; told = found_fault _ _ r e (stops_at left t g) is }

pub as_read : {X : Type 0} {n : ℕ} {fault : ℕ → List ℕ → Option Fault} {Tells : List ℕ → X → Type 0} {old new : Reader} {r : Result X Fault} {x : X} → r ≡ Ok x → ReadOn n fault Tells old new r → ReadOn n fault Tells old new (Ok x)
as_read {n = n} {fault = fault} {Tells = Tells} {old = old} {new = new} e t = subst (ReadOn n fault Tells old new) e t
