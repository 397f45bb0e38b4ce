-- A line as its fields: fields of the right forms with a space between them are cut into these fields again, and a well-formed line is put together from its fields.
use Rattle.std.proofs.Common.{◌≡◌, ℕ, zero, suc, ◌^◌, ◌<◌, ◌≤◌, Bool, true, false, cond, not, ◌&&◌, eqb, List, [], ◌∷◌, ◌++◌, length, get_or, ℤ, pos, negsuc, nat_abs, is_some, Some, None, decimal, Option, sym, refl, ap, ◌∙◌, subst, ap₂, ⊎_elim, append_assoc, append-nil, arith}
use Rattle.std.specs.Fmt.{signed_decimal}
use Rattle.std.specs.List.{AllByRecursion}
use Rattle.std.specs.Str.{bytes_eq, all_ascii_digits}
use Rattle.std.proofs.lemmas.Fmt.{digits_decimal}
use Rattle.std.proofs.lemmas.Slice.Eq.{bytes_eq-Decides}
use Rattle.std.proofs.lemmas.Str.Parse.{tells_all_ascii_digits}
use Rattle.std.proofs.lemmas.Bool.{and_parts, or_cases, not-true, eqb-true, ne_eqb}
use Rattle.sheet.specs.declared.form.Form.{Form}
use Rattle.sheet.specs.declared.form.Form.TheVariants.{Head, Five, Number, Quantity, Letter, Limiter}
use Rattle.sheet.specs.declared.form.Word.{Word}
use Rattle.sheet.specs.declared.form.Word.TheVariants.{Market, Positions, Scenarios}
use Rattle.sheet.specs.Cuts.{before, after, in_front, fields}
use Rattle.sheet.specs.Decimals.{number_of, quantity_of}
use Rattle.sheet.specs.Forms.{word_bytes, is_form, of_forms, well_formed}
use Rattle.sheet.proofs.Marks.{fields_some}
use Rattle.sheet.specs.Numerals.{own, numbers_inverse, quantities_inverse}
use Rattle.sheet.proofs.Shapes.{formed, well_length}
use Rattle.book.specs.SheetReading.{past, field_at}

-- One space between fields.
abbrev pub spaced : List (List ℕ) → List ℕ
spaced [] = []
spaced (f ∷ []) = f
spaced (f ∷ g ∷ fs) = f ++ (32 ∷ spaced (g ∷ fs))

-- Neither a space nor a line feed.
abbrev pub Plain : List ℕ → Type 0
Plain bs = AllByRecursion (λ b. (eqb b 32 ≡ false) × (eqb b 10 ≡ false)) bs

fields_plain : (f : List ℕ) → Plain f → fields f ≡ f ∷ []
fields_plain [] h = refl
fields_plain (b ∷ f) h = ap (λ t. cond t ([] ∷ fields f) (in_front b (fields f))) h.0.0 ∙ ap (in_front b) (fields_plain f h.1)

fields_more : (f rest : List ℕ) → Plain f → fields (f ++ (32 ∷ rest)) ≡ f ∷ fields rest
fields_more [] rest h = refl
fields_more (b ∷ f) rest h = ap (λ t. cond t ([] ∷ fields (f ++ (32 ∷ rest))) (in_front b (fields (f ++ (32 ∷ rest))))) h.0.0 ∙ ap (in_front b) (fields_more f rest h.1)

fields_spaced : (f : List ℕ) (fs : List (List ℕ)) → AllByRecursion Plain (f ∷ fs) → fields (spaced (f ∷ fs)) ≡ f ∷ fs
fields_spaced f [] h = fields_plain f h.0
fields_spaced f (g ∷ fs) h = fields_more f (spaced (g ∷ fs)) h.0 ∙ ap (λ gs. f ∷ gs) (fields_spaced g fs h.1)

-- a field goes on before the line feed
before_run : (f rest : List ℕ) → Plain f → before 10 (f ++ rest) ≡ f ++ before 10 rest
before_run [] rest h = refl
before_run (b ∷ f) rest h = ap (λ t. cond t [] (b ∷ before 10 (f ++ rest))) h.0.1 ∙ ap (λ bs. b ∷ bs) (before_run f rest h.1)

after_run : (f rest : List ℕ) → Plain f → after 10 (f ++ rest) ≡ after 10 rest
after_run [] rest h = refl
after_run (b ∷ f) rest h = ap (λ t. cond t (Some (f ++ rest)) (after 10 (f ++ rest))) h.0.1 ∙ after_run f rest h.1

before_line : (f : List ℕ) (fs : List (List ℕ)) (rest : List ℕ) → AllByRecursion Plain (f ∷ fs) → before 10 (spaced (f ∷ fs) ++ (10 ∷ rest)) ≡ spaced (f ∷ fs)
before_line f [] rest h = before_run f (10 ∷ rest) h.0 ∙ append-nil f
before_line f (g ∷ fs) rest h =
    ap (before 10) (append_assoc f (32 ∷ spaced (g ∷ fs)) (10 ∷ rest))
    ∙ before_run f (32 ∷ (spaced (g ∷ fs) ++ (10 ∷ rest))) h.0
    ∙ ap (λ bs. f ++ (32 ∷ bs)) (before_line g fs rest h.1)

after_line : (f : List ℕ) (fs : List (List ℕ)) (rest : List ℕ) → AllByRecursion Plain (f ∷ fs) → after 10 (spaced (f ∷ fs) ++ (10 ∷ rest)) ≡ Some rest
after_line f [] rest h = after_run f (10 ∷ rest) h.0
after_line f (g ∷ fs) rest h =
    ap (after 10) (append_assoc f (32 ∷ spaced (g ∷ fs)) (10 ∷ rest))
    ∙ after_run f (32 ∷ (spaced (g ∷ fs) ++ (10 ∷ rest))) h.0
    ∙ after_line g fs rest h.1

-- Fields of every form are plain.
digits_plain : (bs : List ℕ) → all_ascii_digits bs ≡ true → Plain bs
digits_plain [] h = tt
digits_plain (b ∷ bs) h =
    let p = tells_all_ascii_digits.parts b bs h in
    ((ne_eqb b 32 (λ e. omega (arith, p.0)), ne_eqb b 10 (λ e. omega (arith, p.0))), digits_plain bs p.1)

decimal_plain : (n : ℕ) → n < 10 ^ 8 → Plain (decimal n)
decimal_plain n l = digits_plain (decimal n) (digits_decimal own n (omega arith))

signed_plain : (z : ℤ) → nat_abs z < 10 ^ 8 → Plain (signed_decimal z)
signed_plain (pos n) l = decimal_plain n l
signed_plain (negsuc n) l = ((refl, refl), decimal_plain (suc n) l)

-- the same as a test, for words that are known
abbrev plain : List ℕ → Bool
plain [] = true
plain (b ∷ bs) = (not (eqb b 32) && not (eqb b 10)) && plain bs

plain_from : (bs : List ℕ) → plain bs ≡ true → Plain bs
plain_from [] h = tt
plain_from (b ∷ bs) h =
    let p = and_parts (not (eqb b 32) && not (eqb b 10)) (plain bs) h in
    let q = and_parts (not (eqb b 32)) (not (eqb b 10)) p.0 in
    ((not-true (eqb b 32) q.0, not-true (eqb b 10) q.1), plain_from bs p.1)

same_plain : (w f : List ℕ) → plain w ≡ true → bytes_eq f w ≡ true → Plain f
same_plain w f p h = subst Plain (sym ((bytes_eq-Decides f w).0 h)) (plain_from w p)

pub some_of : {X : Type 0} (o : Option X) → is_some o ≡ true → (x : X) × (o ≡ Some x)
some_of None h = cc
some_of (Some x) h = (x, refl)

number_plain : (f : List ℕ) → is_some (number_of 8 f) ≡ true → Plain f
number_plain f h =
    let n = some_of (number_of 8 f) h in
    let w = (numbers_inverse 8 (omega arith) (omega arith)).read_writes f n.0 n.1 in
    subst Plain w.1 (decimal_plain n.0 w.0)

quantity_plain : (f : List ℕ) → is_some (quantity_of f) ≡ true → Plain f
quantity_plain f h =
    let z = some_of (quantity_of f) h in
    let w = quantities_inverse.read_writes f z.0 z.1 in
    subst Plain w.1 (signed_plain z.0 w.0)

word_plain : (w : Word) → plain (word_bytes w) ≡ true
word_plain Market = refl
word_plain Positions = refl
word_plain Scenarios = refl

form_plain : (p : Form) (f : List ℕ) → is_form p f ≡ true → Plain f
form_plain (Head w) f h = same_plain (word_bytes w) f (word_plain w) h
form_plain Five f h = same_plain (53 ∷ []) f refl h
form_plain Number f h = number_plain f h
form_plain Quantity f h = quantity_plain f h
form_plain Letter f h = ⊎_elim (same_plain (67 ∷ []) f refl) (same_plain (80 ∷ []) f refl) (or_cases (bytes_eq f (67 ∷ [])) (bytes_eq f (80 ∷ [])) h)
form_plain Limiter f h = ⊎_elim (same_plain (45 ∷ []) f refl) (number_plain f) (or_cases (bytes_eq f (45 ∷ [])) (is_some (number_of 8 f)) h)

forms_plain : (ps : List Form) (fs : List (List ℕ)) → of_forms ps fs ≡ true → AllByRecursion Plain fs
forms_plain [] [] h = tt
forms_plain [] (f ∷ fs) h = cc
forms_plain (p ∷ ps) [] h = cc
forms_plain (p ∷ ps) (f ∷ fs) h = let b = and_parts (is_form p f) (of_forms ps fs) h in (form_plain p f b.0, forms_plain ps fs b.1)

-- The bytes begin with a line of these forms and these fields, and the rest comes after it.
pub record LineIs (forms : List Form) (fs : List (List ℕ)) (bs rest : List ℕ) : Type 0 where
  pub well : well_formed forms bs ≡ true
  pub cut : fields (before 10 bs) ≡ fs
  pub on : past (after 10 bs) ≡ rest

pub line_reads : (forms : List Form) (f : List ℕ) (fs : List (List ℕ)) (rest : List ℕ) → of_forms forms (f ∷ fs) ≡ true → LineIs forms (f ∷ fs) (spaced (f ∷ fs) ++ (10 ∷ rest)) rest
line_reads forms f fs rest h =
    let p = forms_plain forms (f ∷ fs) h in
    let cut = ap fields (before_line f fs rest p) ∙ fields_spaced f fs p in
    let on = after_line f fs rest p in
    record { well = formed forms (spaced (f ∷ fs) ++ (10 ∷ rest)) rest on (ap (of_forms forms) cut ∙ h); cut = cut; on = ap past on }

-- And back: fields are put together into the line.
spaced_in_front : (b : ℕ) (fs : List (List ℕ)) → spaced (in_front b fs) ≡ b ∷ spaced fs
spaced_in_front b [] = refl
spaced_in_front b (f ∷ []) = refl
spaced_in_front b (f ∷ g ∷ fs) = refl

spaced_empty : (fs : List (List ℕ)) → 1 ≤ length fs → spaced ([] ∷ fs) ≡ 32 ∷ spaced fs
spaced_empty [] h = absurd (omega arith)
spaced_empty (f ∷ fs) h = refl

spaced_step : (b : ℕ) (bs : List ℕ) (t : Bool) → eqb b 32 ≡ t → spaced (fields bs) ≡ bs → spaced (cond t ([] ∷ fields bs) (in_front b (fields bs))) ≡ b ∷ bs
spaced_step b bs true e h = spaced_empty (fields bs) (fields_some bs) ∙ ap₂ (λ c cs. c ∷ cs) (sym (eqb-true b 32 e)) h
spaced_step b bs false e h = spaced_in_front b (fields bs) ∙ ap (λ cs. b ∷ cs) h

spaced_fields : (bs : List ℕ) → spaced (fields bs) ≡ bs
spaced_fields [] = refl
spaced_fields (b ∷ bs) = spaced_step b bs (eqb b 32) refl (spaced_fields bs)

ended_step : (b : ℕ) (bs : List ℕ) (t : Bool) → eqb b 10 ≡ t → (is_some (after 10 bs) ≡ true → before 10 bs ++ (10 ∷ past (after 10 bs)) ≡ bs) → is_some (cond t (Some bs) (after 10 bs)) ≡ true → cond t [] (b ∷ before 10 bs) ++ (10 ∷ past (cond t (Some bs) (after 10 bs))) ≡ b ∷ bs
ended_step b bs true e rest h = ap (λ c. c ∷ bs) (sym (eqb-true b 10 e))
ended_step b bs false e rest h = ap (λ cs. b ∷ cs) (rest h)

ended : (bs : List ℕ) → is_some (after 10 bs) ≡ true → before 10 bs ++ (10 ∷ past (after 10 bs)) ≡ bs
ended [] h = cc
ended (b ∷ bs) h = ended_step b bs (eqb b 10) refl (ended bs) h

-- the values of f from 0 on, n of them
abbrev pub first : (ℕ → List ℕ) → ℕ → List (List ℕ)
first f zero = []
first f (suc n) = f 0 ∷ first (λ k. f (suc k)) n

all_first : (fs : List (List ℕ)) → fs ≡ first (λ k. get_or fs k []) (length fs)
all_first [] = refl
all_first (f ∷ fs) = ap (λ gs. f ∷ gs) (all_first fs)

pub record PutTogether (forms : List Form) (bs : List ℕ) (fs : List (List ℕ)) : Type 0 where
  pub formed : of_forms forms fs ≡ true
  pub bytes : spaced fs ++ (10 ∷ past (after 10 bs)) ≡ bs

pub line_writes : (forms : List Form) (bs : List ℕ) → well_formed forms bs ≡ true → PutTogether forms bs (first (λ k. field_at k bs) (length forms))
line_writes forms bs h =
    let b = and_parts (is_some (after 10 bs)) (of_forms forms (fields (before 10 bs))) h in
    let whole = ap (λ cs. cs ++ (10 ∷ past (after 10 bs))) (spaced_fields (before 10 bs)) ∙ ended bs b.0 in
    subst (PutTogether forms bs) (all_first (fields (before 10 bs)) ∙ ap (first (λ k. field_at k bs)) (well_length forms bs h)) (record { formed = b.1; bytes = whole })
