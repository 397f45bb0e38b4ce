-- The lines of a sheet: a written line is well-formed and tells what was written, and a well-formed line is written from what it tells.
use Rattle.std.proofs.Common.{◌≡◌, ℕ, ◌^◌, ◌<◌, Bool, true, false, cond, ◌&&◌, List, [], ◌∷◌, ◌++◌, get_or, nat_abs, is_some, Some, None, decimal, Option, sym, refl, ap, ◌∙◌, subst, ap₂, append_assoc, append-nil, arith}
use Rattle.std.specs.Option.{option_to_list}
use Rattle.std.specs.Fmt.{signed_decimal}
use Rattle.std.proofs.lemmas.Fmt.{decimal_digit, digits_value-decimal}
use Rattle.std.proofs.lemmas.Slice.Eq.{bytes_eq-Decides}
use Rattle.std.proofs.lemmas.Bool.{and_parts}
use Rattle.kinds.specs.Kinds.{Meaning}
use Rattle.sheet.specs.declared.form.Form.{Form}
use Rattle.sheet.specs.declared.form.Form.TheVariants.{Head, Five, Number, Quantity, Letter}
use Rattle.sheet.specs.declared.form.Word.{Word}
use Rattle.sheet.specs.declared.form.Word.TheVariants.{Market, Positions}
use Rattle.sheet.specs.Cuts.{before, after, fields}
use Rattle.sheet.specs.Decimals.{read_on, is_number, quantity_of}
use Rattle.sheet.specs.Forms.{word_bytes, head_number, head_forms, is_form, of_forms, well_formed}
use Rattle.sheet.specs.LineBytes.{number_bytes, head_bytes}
use Rattle.sheet.specs.ReadLines.{number_forms}
use Rattle.sheet.specs.StoredKinds.{limiter_bytes, text_bytes, Storing, limiter_formed, text_formed, position_forms, Storable}
use Rattle.sheet.specs.Numerals.{own, numbers_inverse, quantities_inverse}
use Rattle.book.specs.declared.position.Position.{Position}
use Rattle.book.specs.SheetReading.{past, field_at, text_at, quantity_place, both, position_told}
use Rattle.book.specs.SheetTexts.{position_line}
use Rattle.book.proofs.LineFields.{spaced, some_of, line_reads, line_writes}

-- Numbers.
pub number_formed : (n : ℕ) → n < 10 ^ 8 → is_form Number (decimal n) ≡ true
number_formed n l = ap is_some ((numbers_inverse 8 (omega arith) (omega arith)).written_reads n l)

number_value : (n : ℕ) → n < 10 ^ 8 → read_on 0 (decimal n) ≡ n
number_value n l = digits_value-decimal own n (omega arith)

told_some : {X : Type 0} (b : Bool) (x : X) → is_some (cond b (Some x) None) ≡ true → cond b (Some x) None ≡ Some x
told_some true x h = refl
told_some false x h = cc

number_writes : (f : List ℕ) → is_form Number f ≡ true → decimal (read_on 0 f) ≡ f
number_writes f h = ((numbers_inverse 8 (omega arith) (omega arith)).read_writes f (read_on 0 f) (told_some (is_number 8 f) (read_on 0 f) h)).1

-- A line that tells the number n in the field after k fields, and what comes after it.
pub record Tells (forms : List Form) (k n : ℕ) (bs rest : List ℕ) : Type 0 where
  pub well : well_formed forms bs ≡ true
  pub tells : read_on 0 (field_at k bs) ≡ n
  pub on : past (after 10 bs) ≡ rest

pub number_reads : (n : ℕ) (rest : List ℕ) → n < 10 ^ 8 → Tells number_forms 0 n (number_bytes n ++ rest) rest
number_reads n rest l =
    let r = line_reads number_forms (decimal n) [] rest (ap (λ t. t && true) (number_formed n l)) in
    subst (λ bs. Tells number_forms 0 n bs rest) (sym (append_assoc (decimal n) (10 ∷ []) rest))
    (record { well = r.well; tells = ap (λ fs. read_on 0 (get_or fs 0 [])) r.cut ∙ number_value n l; on = r.on })

pub number_back : (bs : List ℕ) → well_formed number_forms bs ≡ true → number_bytes (read_on 0 (field_at 0 bs)) ++ past (after 10 bs) ≡ bs
number_back bs h =
    let w = line_writes number_forms bs h in
    let f = field_at 0 bs in
    let d = number_writes f (and_parts (is_form Number f) true w.formed).0 in
    append_assoc (decimal (read_on 0 f)) (10 ∷ []) (past (after 10 bs)) ∙ ap (λ cs. cs ++ (10 ∷ past (after 10 bs))) d ∙ w.bytes

-- Heads.
head_spaced : (a b rest : List ℕ) → (a ++ (32 ∷ (b ++ (10 ∷ [])))) ++ rest ≡ (a ++ (32 ∷ b)) ++ (10 ∷ rest)
head_spaced a b rest = simp append_assoc

pub five_formed : is_form Five (decimal 5) ≡ true
five_formed = (bytes_eq-Decides (decimal 5) (53 ∷ [])).1 (decimal_digit 5 (omega arith))

pub head_reads : (w : Word) (n : ℕ) (rest : List ℕ) → is_form (head_number w) (decimal n) ≡ true → n < 10 ^ 8 → Tells (head_forms w) 1 n (head_bytes w n ++ rest) rest
head_reads w n rest h l =
    let word = (bytes_eq-Decides (word_bytes w) (word_bytes w)).1 refl in
    let r = line_reads (head_forms w) (word_bytes w) (decimal n ∷ []) rest (ap₂ (λ t u. t && (u && true)) word h) in
    subst (λ bs. Tells (head_forms w) 1 n bs rest) (sym (head_spaced (word_bytes w) (decimal n) rest))
    (record { well = r.well; tells = ap (λ fs. read_on 0 (get_or fs 1 [])) r.cut ∙ number_value n l; on = r.on })

head_back : (w : Word) (n : ℕ) (bs : List ℕ) → (is_form (head_number w) (field_at 1 bs) ≡ true → decimal n ≡ field_at 1 bs) → well_formed (head_forms w) bs ≡ true → head_bytes w n ++ past (after 10 bs) ≡ bs
head_back w n bs told h =
    let l = line_writes (head_forms w) bs h in
    let p = and_parts (is_form (Head w) (field_at 0 bs)) (is_form (head_number w) (field_at 1 bs) && true) l.formed in
    let q = and_parts (is_form (head_number w) (field_at 1 bs)) true p.1 in
    let word = (bytes_eq-Decides (field_at 0 bs) (word_bytes w)).0 p.0 in
    head_spaced (word_bytes w) (decimal n) (past (after 10 bs)) ∙ ap₂ (λ a b. (a ++ (32 ∷ b)) ++ (10 ∷ past (after 10 bs))) (sym word) (told q.0) ∙ l.bytes

pub market_back : (bs : List ℕ) → well_formed (head_forms Market) bs ≡ true → head_bytes Market 5 ++ past (after 10 bs) ≡ bs
market_back bs h = head_back Market 5 bs (λ f. decimal_digit 5 (omega arith) ∙ sym ((bytes_eq-Decides (field_at 1 bs) (53 ∷ [])).0 f)) h

pub positions_back : (bs : List ℕ) → well_formed (head_forms Positions) bs ≡ true → head_bytes Positions (read_on 0 (field_at 1 bs)) ++ past (after 10 bs) ≡ bs
positions_back bs h = head_back Positions (read_on 0 (field_at 1 bs)) bs (number_writes (field_at 1 bs)) h

-- Positions: the quantity q stands after the contract's fields.
position_spaced : (a b : List ℕ) (l : Option (List ℕ)) (q rest : List ℕ) → ((a ++ (32 ∷ (b ++ limiter_bytes l))) ++ (32 ∷ (q ++ (10 ∷ [])))) ++ rest ≡ spaced (a ∷ b ∷ (option_to_list l ++ (q ∷ []))) ++ (10 ∷ rest)
position_spaced a b None q rest = simp (append_assoc, append-nil)
position_spaced a b (Some c) q rest = simp append_assoc

position_formed : (form : Option Form) (a b : List ℕ) (l : Option (List ℕ)) (q : List ℕ) → is_form Letter a ≡ true → is_form Number b ≡ true → limiter_formed form l ≡ true → is_form Quantity q ≡ true → of_forms (position_forms form) (a ∷ b ∷ (option_to_list l ++ (q ∷ []))) ≡ true
position_formed None a b None q x y z w = λ i. x i && (y i && (w i && true))
position_formed None a b (Some c) q x y z w = cc
position_formed (Some p) a b None q x y z w = cc
position_formed (Some p) a b (Some c) q x y z w = λ i. x i && (y i && (z i && (w i && true)))

-- the fields that are cut are those of the contract and the quantity
text_cut : (form : Option Form) (a b : List ℕ) (l : Option (List ℕ)) (q bs : List ℕ) → limiter_formed form l ≡ true → fields (before 10 bs) ≡ a ∷ b ∷ (option_to_list l ++ (q ∷ [])) → (text_at form bs ≡ record { side = a; strike = b; limiter = l }) × (field_at (quantity_place form) bs ≡ q)
text_cut None a b None q bs h e = ((λ i. record { side = get_or (e i) 0 []; strike = get_or (e i) 1 []; limiter = None }), ap (λ fs. get_or fs 2 []) e)
text_cut None a b (Some c) q bs h e = cc
text_cut (Some p) a b None q bs h e = cc
text_cut (Some p) a b (Some c) q bs h e = ((λ i. record { side = get_or (e i) 0 []; strike = get_or (e i) 1 []; limiter = Some (get_or (e i) 2 []) }), ap (λ fs. get_or fs 3 []) e)

-- a well-formed line tells a contract's fields and a quantity, and is made of them
pub record Texts (form : Option Form) (bs : List ℕ) : Type 0 where
  pub text : text_formed form (text_at form bs) ≡ true
  pub quantity : is_form Quantity (field_at (quantity_place form) bs) ≡ true
  pub bytes : (text_bytes (text_at form bs) ++ (32 ∷ (field_at (quantity_place form) bs ++ (10 ∷ [])))) ++ past (after 10 bs) ≡ bs

texts : (form : Option Form) (bs : List ℕ) → well_formed (position_forms form) bs ≡ true → Texts form bs
texts None bs h =
    let l = line_writes (position_forms None) bs h in
    let x = and_parts (is_form Letter (field_at 0 bs)) (is_form Number (field_at 1 bs) && (is_form Quantity (field_at 2 bs) && true)) l.formed in
    let y = and_parts (is_form Number (field_at 1 bs)) (is_form Quantity (field_at 2 bs) && true) x.1 in
    let z = and_parts (is_form Quantity (field_at 2 bs)) true y.1 in
    record {
      text = ap₂ (λ t u. t && (u && true)) x.0 y.0;
      quantity = z.0;
      bytes = position_spaced (field_at 0 bs) (field_at 1 bs) None (field_at 2 bs) (past (after 10 bs)) ∙ l.bytes;
    }
texts (Some p) bs h =
    let l = line_writes (position_forms (Some p)) bs h in
    let x = and_parts (is_form Letter (field_at 0 bs)) (is_form Number (field_at 1 bs) && (is_form p (field_at 2 bs) && (is_form Quantity (field_at 3 bs) && true))) l.formed in
    let y = and_parts (is_form Number (field_at 1 bs)) (is_form p (field_at 2 bs) && (is_form Quantity (field_at 3 bs) && true)) x.1 in
    let z = and_parts (is_form p (field_at 2 bs)) (is_form Quantity (field_at 3 bs) && true) y.1 in
    let w = and_parts (is_form Quantity (field_at 3 bs)) true z.1 in
    record {
      text = λ i. x.0 i && (y.0 i && z.0 i);
      quantity = w.0;
      bytes = position_spaced (field_at 0 bs) (field_at 1 bs) (Some (field_at 2 bs)) (field_at 3 bs) (past (after 10 bs)) ∙ l.bytes;
    }

module _ {C : Type 0} (K : Meaning C) (s : Storing C) (laws : Storable K s) where
  -- The bytes begin with a line that tells this position, and the rest comes after it.
  pub record PositionRead (p : Position C) (bs rest : List ℕ) : Type 0 where
    pub well : well_formed (position_forms s.limiter_form) bs ≡ true
    pub tells : position_told s bs ≡ Some p
    pub on : past (after 10 bs) ≡ rest

  pub position_reads : (p : Position C) (v u : ℕ) (rest : List ℕ) → K.fits p.contract v u ≡ true → nat_abs p.net < 10 ^ 8 → PositionRead p (position_line s p ++ rest) rest
  position_reads p v u rest fits l =
      let t = s.written p.contract in
      let q = signed_decimal p.net in
      let form = s.limiter_form in
      let read = laws.reads_back p.contract v u fits in
      let number = quantities_inverse.written_reads p.net l in
      let x = and_parts (is_form Letter t.side) (is_form Number t.strike && limiter_formed form t.limiter) (sym (laws.reads_formed t) ∙ ap is_some read) in
      let y = and_parts (is_form Number t.strike) (limiter_formed form t.limiter) x.1 in
      let r = line_reads (position_forms form) t.side (t.strike ∷ (option_to_list t.limiter ++ (q ∷ []))) rest (position_formed form t.side t.strike t.limiter q x.0 y.0 y.1 (ap is_some number)) in
      let bs = spaced (t.side ∷ t.strike ∷ (option_to_list t.limiter ++ (q ∷ []))) ++ (10 ∷ rest) in
      let c = text_cut form t.side t.strike t.limiter q bs y.1 r.cut in
      subst (λ bs. PositionRead p bs rest) (sym (position_spaced t.side t.strike t.limiter q rest))
      (record { well = r.well; tells = ap₂ both (ap s.read c.0 ∙ read) (ap quantity_of c.1 ∙ number); on = r.on })

  pub record PositionBack (bs : List ℕ) : Type 0 where
    pub position : Position C
    pub told : position_told s bs ≡ Some position
    pub bytes : position_line s position ++ past (after 10 bs) ≡ bs

  pub position_back : (bs : List ℕ) → well_formed (position_forms s.limiter_form) bs ≡ true → PositionBack bs
  position_back bs h =
      let form = s.limiter_form in
      let t = text_at form bs in
      let f = field_at (quantity_place form) bs in
      let x = texts form bs h in
      let c = some_of (s.read t) (laws.reads_formed t ∙ x.text) in
      let z = some_of (quantity_of f) x.quantity in
      let w = laws.writes_back t c.0 c.1 in
      let q = (quantities_inverse.read_writes f z.0 z.1).1 in
      record {
        position = record { contract = c.0; net = z.0 };
        told = ap₂ both c.1 z.1;
        bytes = ap₂ (λ y g. (text_bytes y ++ (32 ∷ (g ++ (10 ∷ [])))) ++ past (after 10 bs)) w q ∙ x.bytes;
      }
