-- The fields of a well-formed position line tell a contract and a quantity.
use Rattle.std.proofs.Common.{◌≡◌, ℕ, Bool, true, false, List, [], ◌∷◌, ◌++◌, map, get_or, is_some, Some, None, Option, sym, refl, ap, ◌∙◌}
use Rattle.std.specs.Option.{option_map, option_to_list}
use Rattle.std.proofs.lemmas.Bool.{and_parts, and_from}
use Rattle.sheet.specs.declared.field.Field.{Field}
use Rattle.sheet.specs.declared.form.Form.{Form}
use Rattle.sheet.specs.declared.form.Form.TheVariants.{Letter, Number, Quantity}
use Rattle.sheet.specs.declared.line.PositionLine.{PositionLine}
use Rattle.sheet.specs.Cuts.{before, after, fields}
use Rattle.sheet.specs.Decimals.{quantity_of}
use Rattle.sheet.specs.Forms.{is_form, of_forms, well_formed}
use Rattle.sheet.specs.ReadLines.{position_fields}
use Rattle.sheet.specs.StoredKinds.{ContractText, contract_text, text_formed, position_forms}
use Rattle.book.specs.SheetReading.{text_at, field_at, quantity_place}

-- what a line with these fields tells
abbrev text_in : Option Form → List (List ℕ) → ContractText
text_in None fs = record { side = get_or fs 0 []; strike = get_or fs 1 []; limiter = None }
text_in (Some form) fs = record { side = get_or fs 0 []; strike = get_or fs 1 []; limiter = Some (get_or fs 2 []) }

pub record ToldFields (form : Option Form) (t : ContractText) (quantity : List ℕ) (fs : List (List ℕ)) : Type 0 where
  pub text : text_in form fs ≡ t
  pub place : get_or fs (quantity_place form) [] ≡ quantity
  pub formed : text_formed form t ≡ true
  pub quantity_formed : is_form Quantity quantity ≡ true

wrong : {A : Type 0} → ◌≡◌ {A = Bool} false true → A
wrong e = cc

told_fields : (form : Option Form) (a b : List ℕ) (l : Option (List ℕ)) (q : List ℕ) → of_forms (position_forms form) (a ∷ b ∷ (option_to_list l ++ q ∷ [])) ≡ true → ToldFields form record { side = a; strike = b; limiter = l } q (a ∷ b ∷ (option_to_list l ++ q ∷ []))
told_fields None a b None q h =
    let x = and_parts (is_form Letter a) _ h in
    let y = and_parts (is_form Number b) _ x.1 in
    record { text = refl; place = refl; formed = and_from _ _ x.0 (and_from _ true y.0 refl); quantity_formed = (and_parts (is_form Quantity q) true y.1).0 }
told_fields None a b (Some l) q h =
    let x = and_parts (is_form Letter a) _ h in
    let y = and_parts (is_form Number b) _ x.1 in
    wrong (and_parts (is_form Quantity l) false y.1).1
told_fields (Some form) a b None q h =
    let x = and_parts (is_form Letter a) _ h in
    let y = and_parts (is_form Number b) _ x.1 in
    wrong (and_parts (is_form form q) false y.1).1
told_fields (Some form) a b (Some l) q h =
    let x = and_parts (is_form Letter a) _ h in
    let y = and_parts (is_form Number b) _ x.1 in
    let z = and_parts (is_form form l) _ y.1 in
    record { text = refl; place = refl; formed = and_from _ _ x.0 (and_from _ _ y.0 z.0); quantity_formed = (and_parts (is_form Quantity q) true z.1).0 }

bytes_listed : (a b : Field) (l : Option Field) (q : Field) → map (λ f. f.bytes.now) (a ∷ b ∷ (option_to_list l ++ q ∷ [])) ≡ a.bytes.now ∷ b.bytes.now ∷ (option_to_list (option_map (λ f. f.bytes.now) l) ++ q.bytes.now ∷ [])
bytes_listed a b None q = refl
bytes_listed a b (Some l) q = refl

text_same : (form : Option Form) (bs : List ℕ) → text_at form bs ≡ text_in form (fields (before 10 bs))
text_same None bs = refl
text_same (Some form) bs = refl

-- The line's fields as the reader hands them out.
pub record LineTells (form : Option Form) (p : PositionLine) (bs : List ℕ) : Type 0 where
  pub text : text_at form bs ≡ contract_text p
  pub quantity : field_at (quantity_place form) bs ≡ p.quantity.bytes.now
  pub formed : text_formed form (contract_text p) ≡ true
  pub quantity_some : is_some (quantity_of p.quantity.bytes.now) ≡ true

pub line_tells : (form : Option Form) (p : PositionLine) (bs : List ℕ) → well_formed (position_forms form) bs ≡ true → map (λ f. f.bytes.now) (position_fields p) ≡ fields (before 10 bs) → LineTells form p bs
line_tells form p bs w e =
    let fs = sym (bytes_listed p.side p.strike p.limiter p.quantity) ∙ e in
    let formed = (and_parts (is_some (after 10 bs)) _ w).1 in
    let t = told_fields form p.side.bytes.now p.strike.bytes.now (option_map (λ f. f.bytes.now) p.limiter) p.quantity.bytes.now (ap (of_forms (position_forms form)) fs ∙ formed) in
    record { text = text_same form bs ∙ sym (ap (text_in form) fs) ∙ t.text; quantity = sym (ap (λ xs. get_or xs (quantity_place form) []) fs) ∙ t.place; formed = t.formed; quantity_some = t.quantity_formed }
