-- The fields of a line, read one after another: each step, steps together, and where they end.
use Rattle.std.proofs.Common.{◌≡◌, ℕ, suc, ◌+◌, ◌≤◌, ◌⊎◌, inl, inr, ⊎_elim, true, false, cond, ◌&&◌, List, [], ◌∷◌, ◌++◌, map, length, drop, IfSome, Some, None, Ok, Err, Option, Result, IsErrAnd, sym, refl, ap, ◌∙◌, subst, ap₂, append_assoc, append-nil, length-append, arith}
use Rattle.std.specs.Option.{option_map, option_to_list}
use Rattle.std.proofs.lemmas.List.{map-append}
use Rattle.std.proofs.lemmas.Bool.{and_parts}
use Rattle.sheet.specs.declared.text.Text.{Text}
use Rattle.sheet.specs.declared.field.Field.{Field}
use Rattle.sheet.specs.declared.form.Form.{Form}
use Rattle.sheet.specs.declared.line_reader.LineReader.{LineReader}
use Rattle.sheet.specs.declared.fault.Fault.{Fault}
use Rattle.sheet.specs.declared.fault.Fault.TheVariants as fault
use Rattle.sheet.specs.Cuts.{before, after, fields, fields_left}
use Rattle.sheet.specs.Forms.{is_form, of_forms, good_fields}
use Rattle.sheet.specs.declared.line.Line.{Line}
use Rattle.sheet.specs.ReadLines.{InRow, FieldsTold, Passed, Stayed, Sort, ReadLine}
use Rattle.sheet.specs.LineSteps.{left, LeftTold, Begun, Read, Refused, OptionalRead, first_formed, end_of, line_end}
use Rattle.sheet.proofs.Marks.{fields_cut}
use Rattle.sheet.proofs.Shapes.{formed, not_formed, not_ended}

-- The next field f of a line, of which t is left, and what is left behind it.
module _ (t : Text) (f : List ℕ) (rest : Option Text) (first : f ≡ before 32 t.bytes.now) (more : option_map (λ u. u.bytes.now) rest ≡ after 32 t.bytes.now) where
  left_cut : left (Some t) ≡ f ∷ left rest
  left_cut = fields_cut t.bytes.now ∙ ap₂ (λ x o. x ∷ fields_left o) (sym first) (sym more)

  row_left : (o : Option Text) (line at : ℕ) (fs : List Field) → LeftTold o line fs → IfSome o (λ u. u.offset ≡ at) → (map (λ f. f.bytes.now) fs ≡ left o) × InRow line at fs
  row_left None line at fs h p = (ap (map (λ f. f.bytes.now)) h, subst (InRow line at) (sym h) tt)
  row_left (Some u) line at fs h p = (h.bytes_are, subst (λ x. InRow line x fs) p h.places)

  -- fields told behind a field that stands first
  told_behind : (line : ℕ) (fs : List Field) (g : Field) → g.bytes.now ≡ f → g.line ≡ line → g.offset ≡ t.offset → IfSome rest (λ u. u.offset ≡ t.offset + length (before 32 t.bytes.now) + 1) → LeftTold rest line fs → FieldsTold (g ∷ fs) t.bytes.now line t.offset
  told_behind line fs g b l o p h =
      let q = row_left rest line (t.offset + length (before 32 t.bytes.now) + 1) fs h p in
      record {
        bytes_are = ap₂ (λ x xs. x ∷ xs) b q.0 ∙ sym left_cut;
        places = (l, o, subst (λ x. InRow line (t.offset + length x + 1) fs) (sym (b ∙ first)) q.1);
      }

  pub refused : (form : Form) (old : LineReader) → old.rest ≡ Some t → is_form form f ≡ false → Refused form old old (fault.Field old.line old.field)
  refused form old e h = record { formed = ap (λ o. first_formed form (left o)) e ∙ ap (first_formed form) left_cut ∙ h; fault_is = refl; stays = refl }

  pub read : (form : Form) (old new : LineReader) (g : Field) → old.rest ≡ Some t → is_form form f ≡ true → g.bytes.now ≡ f → g.line ≡ old.line → g.offset ≡ t.offset → IfSome rest (λ u. u.offset ≡ t.offset + length (before 32 t.bytes.now) + 1) → new.rest ≡ rest → new.line ≡ old.line → new.field ≡ old.field + 1 → new.next ≡ old.next → Read (form ∷ []) (g ∷ []) old new
  read form old new g e h b l o p r n k x = record {
    formed = ap (λ y. is_form form y && true) b ∙ ap (λ y. y && true) h;
    cut = ap left e ∙ left_cut ∙ ap₂ (λ y u. y ∷ left u) (sym b) (sym r);
    told = λ fs q. subst (λ u. LeftTold u old.line (g ∷ fs)) (sym e) (told_behind old.line fs g b l o p (subst (λ u. LeftTold u old.line fs) r (subst (λ y. LeftTold new.rest y fs) n q)));
    line_is = n;
    field_is = k;
    next_is = x;
  }

-- Fields that have their forms, before others.
module _ (qs : List Form) (ys : List (List ℕ)) where
  formed_more : (ps : List Form) (xs : List (List ℕ)) → of_forms ps xs ≡ true → of_forms (ps ++ qs) (xs ++ ys) ≡ of_forms qs ys
  formed_more [] [] h = refl
  formed_more [] (x ∷ xs) h = cc
  formed_more (p ∷ ps) [] h = cc
  formed_more (p ∷ ps) (x ∷ xs) h =
      let b = and_parts (is_form p x) (of_forms ps xs) h in
      ap (λ t. t && of_forms (ps ++ qs) (xs ++ ys)) b.0 ∙ formed_more ps xs b.1

  good_more : (ps : List Form) (xs : List (List ℕ)) → of_forms ps xs ≡ true → good_fields (ps ++ qs) (xs ++ ys) ≡ length ps + good_fields qs ys
  good_more [] [] h = omega arith
  good_more [] (x ∷ xs) h = cc
  good_more (p ∷ ps) [] h = cc
  good_more (p ∷ ps) (x ∷ xs) h =
      let b = and_parts (is_form p x) (of_forms ps xs) h in
      let e = ap (λ t. cond t (suc (good_fields (ps ++ qs) (xs ++ ys))) 0) b.0 in
      omega (arith, e, good_more ps xs b.1)

-- a field that is missing or has another form
first_refused : (p : Form) (ps : List Form) (xs : List (List ℕ)) → first_formed p xs ≡ false → (of_forms (p ∷ ps) xs ≡ false) × (good_fields (p ∷ ps) xs ≡ 0)
first_refused p ps [] h = (refl, refl)
first_refused p ps (x ∷ xs) h = (ap (λ t. t && of_forms ps xs) h, ap (λ t. cond t (suc (good_fields ps xs)) 0) h)

-- Steps one after another.
pub none_read : (r : LineReader) → Read [] [] r r
none_read r = record { formed = refl; cut = refl; told = λ fs h. h; line_is = refl; field_is = omega arith; next_is = refl }

pub steps : {ps qs : List Form} {fs gs : List Field} {a b c : LineReader} → Read ps fs a b → Read qs gs b c → Read (ps ++ qs) (fs ++ gs) a c
steps {ps} {qs} {fs} {gs} {a} {b} {c} x y =
    let bytes : Field → List ℕ = λ f. f.bytes.now in
    record {
      formed = ap (of_forms (ps ++ qs)) (map-append bytes fs gs) ∙ formed_more qs (map bytes gs) ps (map bytes fs) x.formed ∙ y.formed;
      cut = x.cut ∙ ap (λ r. map bytes fs ++ r) y.cut ∙ sym (append_assoc (map bytes fs) (map bytes gs) (left c.rest)) ∙ ap (λ r. r ++ left c.rest) (sym (map-append bytes fs gs));
      told = λ hs h. subst (LeftTold a.rest a.line) (sym (append_assoc fs gs hs)) (x.told (gs ++ hs) (y.told hs h));
      line_is = y.line_is ∙ x.line_is;
      field_is = omega (arith, x.field_is, y.field_is, length-append ps qs);
      next_is = y.next_is ∙ x.next_is;
    }

-- What was read or refused in one form was read or refused in the same form by another name.
pub read_as : {p : Form} (q : Form) {fs : List Field} {a b : LineReader} → p ≡ q → Read (p ∷ []) fs a b → Read (q ∷ []) fs a b
read_as q {fs} {a} {b} e r = subst (λ f. Read (f ∷ []) fs a b) e r

pub refused_as : {p : Form} (q : Form) {a b : LineReader} {x : Fault} → p ≡ q → Refused p a b x → Refused q a b x
refused_as q {a} {b} {x} e r = subst (λ f. Refused f a b x) e r

pub forms_as : {ps : List Form} (qs : List Form) {fs : List Field} {a b : LineReader} → ps ≡ qs → Read ps fs a b → Read qs fs a b
forms_as qs {fs} {a} {b} e r = subst (λ fs'. Read fs' fs a b) e r

pub optional_refused : (p q : Option Form) (a b : LineReader) (x : Fault) → p ≡ q → OptionalRead p a b (Err x) → OptionalRead q a b (Err x)
optional_refused p q a b x e r = subst (λ o. OptionalRead o a b (Err x)) e r

end_ok : (rest : Option Text) (next : Option ℕ) (e : Fault) (n : ℕ) → end_of rest next e ≡ Ok n → (rest ≡ None) × (next ≡ Some n)
end_ok None (Some m) e n h = (refl, cc)
end_ok None None e n h = cc
end_ok (Some t) next e n h = cc

end_err : (rest : Option Text) (next : Option ℕ) (e f : Fault) → end_of rest next e ≡ Err f → (f ≡ e) × ((of_forms [] (left rest) ≡ false) ⊎ (next ≡ None))
end_err None (Some n) e f h = cc
end_err None None e f h = (cc, inr refl)
end_err (Some t) next e f h = (cc, inl (ap (of_forms []) (fields_cut t.bytes.now)))

-- A line that was read from its first field on.
module _ {sheet : List ℕ} {at lines : ℕ} {r : LineReader} (b : Begun sheet at lines r) where
  -- the fields that were read, before those that are left
  all : {ps : List Form} {fs : List Field} {s : LineReader} → Read ps fs r s → fields (before 10 (drop at sheet)) ≡ map (λ f. f.bytes.now) fs ++ left s.rest
  all x = sym b.left_is ∙ x.cut

  formed_all : {ps : List Form} {fs : List Field} {s : LineReader} (qs : List Form) → Read ps fs r s → of_forms (ps ++ qs) (fields (before 10 (drop at sheet))) ≡ of_forms qs (left s.rest)
  formed_all {ps} {fs} {s} qs x = ap (of_forms (ps ++ qs)) (all x) ∙ formed_more qs (left s.rest) ps (map (λ f. f.bytes.now) fs) x.formed

  good_all : {ps : List Form} {fs : List Field} {s : LineReader} (qs : List Form) → Read ps fs r s → good_fields (ps ++ qs) (fields (before 10 (drop at sheet))) ≡ length ps + good_fields qs (left s.rest)
  good_all {ps} {fs} {s} qs x = ap (good_fields (ps ++ qs)) (all x) ∙ good_more qs (left s.rest) ps (map (λ f. f.bytes.now) fs) x.formed

  -- to its end
  pub passed : {ps : List Form} {fs : List Field} {s : LineReader} (n : ℕ) → Read ps fs r s → line_end s ≡ Ok n → Passed ps sheet at lines n (lines + 1) × FieldsTold fs (before 10 (drop at sheet)) (lines + 1) at
  passed {ps} {fs} {s} n x e =
      let bs = drop at sheet in
      let z = end_ok s.rest s.next _ n e in
      let next : r.next ≡ Some n = sym x.next_is ∙ z.1 in
      let a : after 10 bs ≡ Some (drop n sheet) = sym b.next_is ∙ ap (option_map (λ m. drop m sheet)) next in
      let w : of_forms ps (fields (before 10 bs)) ≡ true = sym (ap (λ l. of_forms l (fields (before 10 bs))) (append-nil ps)) ∙ formed_all [] x ∙ ap (λ o. of_forms [] (left o)) z.0 in
      let p = subst (λ o. IfSome o (λ m. (m ≡ at + length (before 10 bs) + 1) × (m ≤ length sheet))) next b.place in
      let none : LeftTold s.rest s.line [] = subst (λ o. LeftTold o s.line []) (sym z.0) refl in (
        record { well = formed ps bs (drop n sheet) a w; rest = a; at_is = p.0; lines_is = refl },
        b.told fs (subst (LeftTold r.rest r.line) (append-nil fs) (x.told [] none)),
      )

  -- to a field that was refused
  pub stayed : {ps : List Form} {q : Form} {fs : List Field} {s t : LineReader} {e : Fault} (more : List Form) → Read ps fs r s → Refused q s t e → Stayed (ps ++ (q ∷ more)) sheet at lines at lines e
  stayed {ps} {q} {fs} {s} {t} {e} more x y =
      let bs = drop at sheet in
      let z = first_refused q more (left s.rest) y.formed in
      record {
        malformed = not_formed (ps ++ (q ∷ more)) bs (formed_all (q ∷ more) x ∙ z.0);
        fault_is = y.fault_is ∙ ap₂ fault.Field (x.line_is ∙ b.line_is) (omega (arith, x.field_is, b.field_is, good_all (q ∷ more) x, z.1));
        at_is = refl;
        lines_is = refl;
      }

  pub stayed_optional : {ps : List Form} {fs : List Field} {s : LineReader} (t : LineReader) (e : Fault) (q : Option Form) (more : List Form) → Read ps fs r s → OptionalRead q s t (Err e) → Stayed (ps ++ (option_to_list q ++ more)) sheet at lines at lines e
  stayed_optional t e None more x y = absurd y
  stayed_optional t e (Some q) more x y = stayed more x y

  -- to what should be its end
  pub unended : {ps : List Form} {fs : List Field} {s : LineReader} (e : Fault) → Read ps fs r s → line_end s ≡ Err e → Stayed ps sheet at lines at lines e
  unended {ps} {fs} {s} e x h =
      let bs = drop at sheet in
      let o = end_err s.rest s.next _ e h in
      let w : of_forms ps (fields (before 10 bs)) ≡ of_forms [] (left s.rest) = sym (ap (λ l. of_forms l (fields (before 10 bs))) (append-nil ps)) ∙ formed_all [] x in
      let n = ap (λ l. good_fields l (fields (before 10 bs))) (append-nil ps) in
      record {
        malformed = ⊎_elim (λ f. not_formed ps bs (w ∙ f)) (λ z. not_ended ps bs (sym b.next_is ∙ ap (option_map (λ m. drop m sheet)) (sym x.next_is ∙ z))) o.1;
        fault_is = o.0 ∙ ap₂ fault.Field (x.line_is ∙ b.line_is) (omega (arith, x.field_is, b.field_is, n, good_all [] x));
        at_is = refl;
        lines_is = refl;
      }

-- a fault that `?` hands on
pub handed_on : (sort : Sort) (forms : List Form) (sheet : List ℕ) (at lines : ℕ) (o : Result Line Fault) (e : Fault) → IsErrAnd o (λ f. f ≡ e) → Stayed forms sheet at lines at lines e → ReadLine sort forms sheet at lines at lines o
handed_on sort forms sheet at lines (Ok l) e h s = absurd h
handed_on sort forms sheet at lines (Err f) e h s = subst (Stayed forms sheet at lines at lines) (sym h) s
