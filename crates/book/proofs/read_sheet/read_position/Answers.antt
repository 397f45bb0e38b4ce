use Rattle.std.proofs.Common.{◌≡◌, ℕ, true, ◌+◌, List, Option, ◌^◌, ◌<◌, map, drop, ℤ, nat_abs, is_some, Some, sym, refl, ap, ◌∙◌, ap₂, arith, w32, to_z, of_z}
use borrow.Author.Differences.{ints}
use Rattle.sheet.specs.declared.line.Line.{Line}
use Rattle.sheet.specs.declared.line.Line.TheVariants as line
use Rattle.sheet.specs.declared.line.PositionLine.{PositionLine}
use Rattle.sheet.specs.declared.form.Form.{Form}
use Rattle.sheet.specs.Decimals.{quantity_of}
use Rattle.sheet.specs.Numerals.{quantities_inverse}
use Rattle.sheet.specs.ReadLines.{FieldsTold, line_fields}
use Rattle.sheet.specs.Forms.{well_formed}
use Rattle.sheet.specs.Cuts.{before}
use Rattle.sheet.specs.StoredKinds.{position_forms}
use Rattle.book.specs.SheetReading.{unread, both, past, position_told}
use Rattle.book.proofs.PositionLines.{LineTells, line_tells}
use Rattle.book.proofs.SheetFaults.{from_well}
use Rattle.book.proofs.read_sheet.read_position.Goals as goal

kept_net : (z : ℤ) → nat_abs z < 10 ^ 8 → to_z w32 (of_z w32 z) ≡ z
kept_net z h = omega (arith, ints, (let p : 10 ^ 8 ≡ 100000000 = refl in p))

-- The line that the reader handed out, as its fields.
told : (form : Option Form) (bs : List ℕ) (l : Line) (p : PositionLine) (n at : ℕ) → l ≡ line.Position p → well_formed (position_forms form) bs ≡ true → FieldsTold (line_fields l) (before 10 bs) n at → LineTells form p bs
told form bs l p n at is well t = line_tells form p bs well (ap (λ k. map (λ f. f.bytes.now) (line_fields k)) (sym is) ∙ t.bytes_are)

pub unwrap-contract-requires : goal.unwrap-contract-requires
unwrap-contract-requires g c =
    let e = c.in_ok-fields.ensures.told in
    let t = told g.K.Stored.stored.limiter_form (unread c.args.reader.now) _ c.in-Position.fields _ _ c.in-Position.is e.1.well e.2 in
    ap is_some c.read.ensures ∙ g.met.K.Stored.storable.reads_formed _ ∙ t.formed

pub unwrap-net-requires : goal.unwrap-net-requires
unwrap-net-requires g c =
    let e = c.in_ok-fields.ensures.told in
    let t = told g.K.Stored.stored.limiter_form (unread c.args.reader.now) _ c.in-Position.fields _ _ c.in-Position.is e.1.well e.2 in
    ap is_some c.quantity.ensures ∙ t.quantity_some

pub returns : goal.returns
returns g c =
    let s = g.K.Stored.stored in
    let bs = unread c.args.reader.now in
    let e = c.in_ok-fields.ensures.told in
    let same = c.in_ok-fields.ensures.same in
    let t = told s.limiter_form bs _ c.in-Position.fields _ _ c.in-Position.is e.1.well e.2 in
    let net = c.unwrap-net.result in
    let written : quantity_of c.in-Position.fields.quantity.bytes.now ≡ Some net = sym c.quantity.ensures ∙ c.unwrap-net.ensures in
    let kept = kept_net net (quantities_inverse.read_writes c.in-Position.fields.quantity.bytes.now net written).0 in
    let tells : position_told s bs ≡ Some record { contract = c.unwrap-contract.result; net = net } =
    ap₂ both (ap s.read t.text ∙ sym c.read.ensures ∙ c.unwrap-contract.ensures) (ap quantity_of t.quantity ∙ written) in
    record {
      same = same;
      told = (
        from_well (c.args.reader.now.lines + 1) (position_forms s.limiter_form) bs e.1.well,
        record {
          tells = tells ∙ ap (λ z. Some record { contract = c.unwrap-contract.result; net = z }) (sym kept);
          at = ap (drop c.position.new.self.at) same ∙ sym (ap past e.1.rest);
          lines = e.1.lines_is;
        },
      );
    }
