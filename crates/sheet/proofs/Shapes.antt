-- When a line is well-formed, and how many fields it has then.
use Rattle.std.proofs.Common.{◌≡◌, ℕ, suc, ◌≤◌, true, false, cond, ◌&&◌, List, [], ◌∷◌, length, is_some, Some, None, refl, ap, arith}
use Rattle.std.proofs.lemmas.Bool.{and_parts, and_from, and_right}
use Rattle.sheet.specs.declared.form.Form.{Form}
use Rattle.sheet.specs.Cuts.{before, after, fields}
use Rattle.sheet.specs.Forms.{is_form, of_forms, good_fields, well_formed}

-- A line without its line feed is not well-formed, nor is one whose fields are not.
pub not_ended : (forms : List Form) (bs : List ℕ) → after 10 bs ≡ None → well_formed forms bs ≡ false
not_ended forms bs e = ap (λ o. is_some o && of_forms forms (fields (before 10 bs))) e

pub not_formed : (forms : List Form) (bs : List ℕ) → of_forms forms (fields (before 10 bs)) ≡ false → well_formed forms bs ≡ false
not_formed forms bs e = and_right (is_some (after 10 bs)) (of_forms forms (fields (before 10 bs))) e

pub formed : (forms : List Form) (bs rest : List ℕ) → after 10 bs ≡ Some rest → of_forms forms (fields (before 10 bs)) ≡ true → well_formed forms bs ≡ true
formed forms bs rest a o = and_from (is_some (after 10 bs)) (of_forms forms (fields (before 10 bs))) (ap is_some a) o

pub formed_length : (ps : List Form) (fs : List (List ℕ)) → of_forms ps fs ≡ true → length fs ≡ length ps
formed_length [] [] h = refl
formed_length [] (f ∷ fs) h = cc
formed_length (p ∷ ps) [] h = cc
formed_length (p ∷ ps) (f ∷ fs) h = ap suc (formed_length ps fs (and_parts (is_form p f) (of_forms ps fs) h).1)

-- A well-formed line has as many fields as forms are asked.
pub well_length : (ps : List Form) (bs : List ℕ) → well_formed ps bs ≡ true → length (fields (before 10 bs)) ≡ length ps
well_length ps bs h = formed_length ps (fields (before 10 bs)) (and_parts (is_some (after 10 bs)) (of_forms ps (fields (before 10 bs))) h).1

-- No more fields are good than forms are asked.
pub good_most : (ps : List Form) (fs : List (List ℕ)) → good_fields ps fs ≤ length ps
good_most [] fs = omega arith
good_most (p ∷ ps) [] = omega arith
good_most (p ∷ ps) (f ∷ fs) =
    let h = good_most ps fs in
    elim (is_form p f) as (λ t. cond t (suc (good_fields ps fs)) 0 ≤ suc (length ps)) [ true ↦ omega arith | false ↦ omega arith ]
