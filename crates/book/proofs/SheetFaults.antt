-- Where a sheet has no fault: what the reader's tests on single lines and on the market found, and when they pass.
use Rattle.std.proofs.Common.{◌≡◌, ℕ, ◌*◌, ◌≤◌, Bool, true, false, cond, ltb, List, is_some, Some, None, Option, refl, ap, ◌∙◌, ap₂}
use Rattle.std.proofs.lemmas.Bool.{or_from, le-ltb}
use Rattle.sheet.specs.declared.market_number.MarketNumber.{MarketNumber}
use Rattle.sheet.specs.declared.market_number.MarketNumber.TheVariants as market_number
use Rattle.sheet.specs.MarketNumbers.{market_place}
use Rattle.sheet.specs.declared.fault.Fault.{Fault}
use Rattle.sheet.specs.declared.fault.Fault.TheVariants as fault
use Rattle.sheet.specs.declared.fault.LineCause.TheVariants as line_cause
use Rattle.sheet.specs.declared.form.Form.{Form}
use Rattle.sheet.specs.declared.form.Word.TheVariants as word
use Rattle.sheet.specs.Decimals.{read_on}
use Rattle.sheet.specs.Forms.{head_forms, well_formed, fault_field}
use Rattle.sheet.specs.ReadLines.{number_forms}
use Rattle.book.specs.Markets.{outside, IsMarket}
use Rattle.book.specs.SheetReading.{after_lines, field_at, number_at, market_told, or_fault, malformed, when, number_fault, market_fault}
use Rattle.book.proofs.SheetLines.{Tells}

-- The tests one by one.
pub or_both : (a b : Option Fault) → or_fault a b ≡ None → (a ≡ None) × (b ≡ None)
or_both None b h = (refl, h)
or_both (Some f) b h = cc

pub when_not : (b : Bool) (f : Fault) → when b f ≡ None → b ≡ false
when_not true f h = cc
when_not false f h = refl

pub not_when : (b : Bool) (f : Fault) → b ≡ false → when b f ≡ None
not_when b f e = ap (λ t. when t f) e

formed_by : (b : Bool) (f : Fault) → cond b None (Some f) ≡ None → b ≡ true
formed_by true f h = refl
formed_by false f h = cc

pub well_from : (line : ℕ) (forms : List Form) (bs : List ℕ) → malformed line forms bs ≡ None → well_formed forms bs ≡ true
well_from line forms bs h = formed_by (well_formed forms bs) (fault.Field line (fault_field forms bs)) h

pub from_well : (line : ℕ) (forms : List Form) (bs : List ℕ) → well_formed forms bs ≡ true → malformed line forms bs ≡ None
from_well line forms bs h = ap (λ t. cond t None (Some (fault.Field line (fault_field forms bs)))) h

pub inside : (n low high : ℕ) → low ≤ n → n ≤ high → outside n low high ≡ false
inside n low high a b = or_from (ltb n low) (ltb high n) (le-ltb n low a) (le-ltb high n b)

-- A line with a number of the market.
pub record NumberRight (low high : ℕ) (bs : List ℕ) : Type 0 where
  pub well : well_formed number_forms bs ≡ true
  pub inside : outside (read_on 0 (field_at 0 bs)) low high ≡ false

number_right : (line : ℕ) (which : MarketNumber) (low high : ℕ) (bs : List ℕ) → number_fault line which low high bs ≡ None → NumberRight low high bs
number_right line which low high bs h =
    let p = or_both _ _ h in
    record { well = well_from line number_forms bs p.0; inside = when_not _ _ p.1 }

pub number_none : (line : ℕ) (which : MarketNumber) (low high x : ℕ) (bs rest : List ℕ) → Tells number_forms 0 x bs rest → low ≤ x → x ≤ high → number_fault line which low high bs ≡ None
number_none line which low high x bs rest t a b =
    ap₂ or_fault (from_well line number_forms bs t.well) (not_when _ (fault.Line line (line_cause.MarketNumber (market_place which))) (ap (λ y. outside y low high) t.tells ∙ inside x low high a b))

pub record MarketRight (bs : List ℕ) : Type 0 where
  pub head : well_formed (head_forms word.Market) bs ≡ true
  pub ceiling : NumberRight 1 20000000 (after_lines 1 bs)
  pub reference : NumberRight 1 (number_at 1 bs) (after_lines 2 bs)
  pub factor : NumberRight 0 10000 (after_lines 3 bs)
  pub size : NumberRight 1 1000 (after_lines 4 bs)
  pub rate : NumberRight 1 99999 (after_lines 5 bs)
  pub product : ltb 5000000000000 (number_at 1 bs * number_at 4 bs * number_at 5 bs) ≡ false

pub market_right : (bs : List ℕ) → market_fault bs ≡ None → MarketRight bs
market_right bs h =
    let a = or_both _ _ h in
    let b = or_both _ _ a.1 in
    let c = or_both _ _ b.1 in
    let d = or_both _ _ c.1 in
    let e = or_both _ _ d.1 in
    let f = or_both _ _ e.1 in
    record {
      head = well_from 1 (head_forms word.Market) bs a.0;
      ceiling = number_right 2 market_number.Ceiling _ _ _ b.0;
      reference = number_right 3 market_number.Reference _ _ _ c.0;
      factor = number_right 4 market_number.Factor _ _ _ d.0;
      size = number_right 5 market_number.Size _ _ _ e.0;
      rate = number_right 6 market_number.Rate _ _ _ f.0;
      product = when_not _ _ f.1;
    }

-- a market whose six tests fail to find a fault
neither : {X : Type 0} (b : Bool) (x : X) (o : Option X) → b ≡ false → is_some o ≡ false → is_some (cond b (Some x) o) ≡ false
neither b x o e h = ap (λ t. is_some (cond t (Some x) o)) e ∙ h

pub is_market : (bs : List ℕ) → MarketRight bs → IsMarket (market_told bs)
is_market bs r =
    neither _ _ _ r.ceiling.inside (neither _ _ _ r.reference.inside (neither _ _ _ r.factor.inside
    (neither _ _ _ r.size.inside (neither _ _ _ r.rate.inside (neither _ _ _ r.product refl)))))
