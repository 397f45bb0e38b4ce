-- Cutting bytes at a mark, and a line into its fields.
use Rattle.std.proofs.Common.{◌≡◌, ℕ, suc, ◌+◌, ◌<◌, ◌≤◌, true, false, cond, not, eqb, List, [], ◌∷◌, ◌++◌, length, get_or, take, drop, MatchOption, Some, None, Option, slice_index, ◌≢◌, ◌==◌, sym, refl, ap, ◌∙◌, take_all, ⊎_elim, append_assoc, arith}
use Rattle.std.proofs.lemmas.List.{at_drop_more, take_more}
use Rattle.std.specs.List.{position_or_len}
use Rattle.std.proofs.lemmas.List.Sums.{position_or_len_is}
use Rattle.std.proofs.lemmas.Bool.{eq-eqb, ne_eqb, cases_Bool}
use Rattle.sheet.specs.Cuts.{before, after, in_front, fields, fields_left}

-- The place of the mark, and what stands before and after it.
module _ (mark : ℕ) where
  abbrev place : List ℕ → ℕ
  place bs = position_or_len (λ b. b == mark) bs

  front : (bs : List ℕ) → before mark bs ≡ take (place bs) bs
  front [] = refl
  front (b ∷ bs) =
      elim (b == mark) as (λ t. cond t [] (b ∷ before mark bs) ≡ take (cond (not t) (1 + place bs) 0) (b ∷ bs)) [
        | true ↦ refl
        | false ↦ let e : suc (place bs) ≡ 1 + place bs = omega arith in ap (λ r. b ∷ r) (front bs) ∙ ap (λ n. take n (b ∷ bs)) e
      ]

  found : (bs : List ℕ) → place bs < length bs → after mark bs ≡ Some (drop (place bs + 1) bs)
  found [] h = absurd (omega arith)
  found (b ∷ bs) h =
      elim (b == mark) as (λ t. cond (not t) (1 + place bs) 0 < suc (length bs) → cond t (Some bs) (after mark bs) ≡ Some (drop (cond (not t) (1 + place bs) 0 + 1) (b ∷ bs))) [
        | true ↦ λ l. refl
        | false ↦ λ l. let e : suc (place bs + 1) ≡ 1 + place bs + 1 = omega arith in found bs (omega arith) ∙ ap (λ n. Some (drop n (b ∷ bs))) e
      ] h

  missed : (bs : List ℕ) → length bs ≤ place bs → after mark bs ≡ None
  missed [] h = refl
  missed (b ∷ bs) h =
      elim (b == mark) as (λ t. suc (length bs) ≤ cond (not t) (1 + place bs) 0 → cond t (Some bs) (after mark bs) ≡ None) [
        | true ↦ λ l. absurd (omega arith)
        | false ↦ λ l. missed bs (omega arith)
      ] h

  -- what is known of the first place of the mark says how the bytes are cut
  pub cut_there : (bs : List ℕ) (place : Option ℕ) → MatchOption place ((k : ℕ) → k < length bs → slice_index bs k ≢ mark) (λ i. (i < length bs) × (slice_index bs i ≡ mark) × ((k : ℕ) → k < i → slice_index bs k ≢ mark)) → MatchOption place ((after mark bs ≡ None) × (before mark bs ≡ bs)) (λ i. (i < length bs) × (before mark bs ≡ take i bs) × (after mark bs ≡ Some (drop (i + 1) bs)))
  cut_there bs None h =
      let e = position_or_len_is (λ b. b == mark) bs (length bs) 0 (omega arith) (λ k l. ne_eqb _ _ (h k l)) (λ l. absurd (omega arith)) in
      let l : length bs ≤ place bs = omega (arith, e) in
      (missed bs l, front bs ∙ take_all (place bs) bs l)
  cut_there bs (Some i) h =
      let e = position_or_len_is (λ b. b == mark) bs i 0 (omega (arith, h.0)) (λ k l. ne_eqb _ _ (h.2 k l)) (λ l. eq-eqb _ _ h.1) in
      (h.0, front bs ∙ ap (λ n. take n bs) e, found bs (omega (arith, e, h.0)) ∙ ap (λ n. Some (drop (n + 1) bs)) e)

-- The first field of a line, and the fields after it.
pub fields_cut : (bs : List ℕ) → fields bs ≡ before 32 bs ∷ fields_left (after 32 bs)
fields_cut [] = refl
fields_cut (b ∷ bs) =
    elim (eqb b 32) as (λ t. cond t ([] ∷ fields bs) (in_front b (fields bs)) ≡ cond t [] (b ∷ before 32 bs) ∷ fields_left (cond t (Some bs) (after 32 bs))) [
      | true ↦ refl
      | false ↦ ap (in_front b) (fields_cut bs)
    ]

pub fields_some : (bs : List ℕ) → 1 ≤ length (fields bs)
fields_some bs = omega (arith, ap length (fields_cut bs))

-- One byte further, none of which is the mark.
module _ (mark : ℕ) (bs : List ℕ) (i : ℕ) (l : i < length bs) where
  pub before_past : (get_or bs i 0 ≡ mark → ⊥) → before mark (drop i bs) ≡ get_or bs i 0 ∷ before mark (drop (i + 1) bs)
  before_past e = at_drop_more (before mark) bs i 0 l ∙ ap (λ t. cond t [] (get_or bs i 0 ∷ before mark (drop (i + 1) bs))) (ne_eqb (get_or bs i 0) mark e)

  pub before_step : before mark bs ≡ take i bs ++ before mark (drop i bs) → (get_or bs i 0 ≡ mark → ⊥) → before mark bs ≡ take (i + 1) bs ++ before mark (drop (i + 1) bs)
  before_step h e =
      h ∙ ap (λ r. take i bs ++ r) (before_past e) ∙ sym (append_assoc (take i bs) (get_or bs i 0 ∷ []) (before mark (drop (i + 1) bs))) ∙ ap (λ r. r ++ before mark (drop (i + 1) bs)) (sym (take_more bs i 0 l))

-- A text without the mark is all before it.
pub before_whole : (mark : ℕ) (bs : List ℕ) → after mark bs ≡ None → before mark bs ≡ bs
before_whole mark [] h = refl
before_whole mark (b ∷ bs) h =
    ⊎_elim
    (λ t. absurd (let e = sym (ap (λ u. cond u (Some bs) (after mark bs)) t) ∙ h in let z : ◌≡◌ {A = ℕ} 0 1 = cc in omega arith))
    (λ t. ap (λ u. cond u [] (b ∷ before mark bs)) t ∙ ap (λ r. b ∷ r) (before_whole mark bs (sym (ap (λ u. cond u (Some bs) (after mark bs)) t) ∙ h)))
    (cases_Bool (eqb b mark))

one_left : (bs : List ℕ) (o : Option (List ℕ)) → after 32 bs ≡ o → length (before 32 bs ∷ fields_left o) ≡ 1 → before 32 bs ∷ fields_left o ≡ bs ∷ []
one_left bs None e l = ap (λ f. f ∷ []) (before_whole 32 bs e)
one_left bs (Some r) e l = absurd (omega (arith, fields_some r))

-- A line of one field is that field.
pub last_field : (bs : List ℕ) → length (fields bs) ≡ 1 → fields bs ≡ bs ∷ []
last_field bs l = fields_cut bs ∙ one_left bs (after 32 bs) refl (sym (ap length (fields_cut bs)) ∙ l)
