-- Flexible options keep the laws of a stored kind.
use Rattle.std.specs.Prelude.{◌≡◌, ℕ, ◌≤◌, Bool, true, false, cond, ◌&&◌, ◌||◌, List, [], ◌∷◌, ◌++◌, length, is_some, Some, None, Ok, Err, decimal, Option, nat_le, nat_lt, refl}
use Rattle.std.proofs.Common.{sym, ap, ap₂, ◌∙◌, subst, ⊎_elim, arith, length-append}
use Rattle.std.specs.Option.{option_map}
use Rattle.std.specs.Fmt.{signed_decimal}
use Rattle.std.specs.Str.{bytes_eq, all_ascii_digits}
use Rattle.std.proofs.lemmas.Bool.{and_parts, leb-true, ltb-true, cases_Bool}
use Rattle.std.proofs.lemmas.Slice.Eq.{bytes_eq-Decides}
use Rattle.std.proofs.lemmas.Fmt.{digits_decimal}
use Rattle.kinds.specs.declared.contract_refusal.ContractRefusal.TheVariants as refusal
use Rattle.kinds.specs.declared.side.Side.{Side}
use Rattle.kinds.specs.declared.side.Side.TheVariants.{Call, Put}
use Rattle.kinds.specs.declared.flexible.Flexible.{Flexible}
use Rattle.kinds.specs.Sides.{strike_right}
use Rattle.kinds.specs.FlexibleOptions.{flexible, limiter_right, limiter_fits}
use Rattle.sheet.specs.declared.form.Form.TheVariants.{Limiter}
use Rattle.sheet.specs.Decimals.{number_of}
use Rattle.sheet.specs.ListedLines.{letter, side_of}
use Rattle.sheet.specs.FlexibleLines.{limiter_of, limiter_text, with_limiter, flexible_of, flexible_stored, refused}
use Rattle.sheet.specs.StoredKinds.{Storable, limiter_formed}
use Rattle.sheet.specs.Numerals.{own}
use Rattle.sheet.specs.Letters.{side_formed, side_reads, side_writes, short_reads, short_writes, short_length, strike_low}

formed_limiter : (s : Side) (k : ℕ) (t : Bool) (o : Option ℕ) → is_some (with_limiter s k (cond t (Some None) (option_map (λ n. Some n) o))) ≡ (t || is_some o)
formed_limiter s k true o = refl
formed_limiter s k false None = refl
formed_limiter s k false (Some n) = refl

formed : (s : Option Side) (k : Option ℕ) (l : Option (List ℕ)) → is_some (flexible_of s k l) ≡ (is_some s && (is_some k && limiter_formed (Some Limiter) l))
formed None k l = refl
formed (Some s) None l = refl
formed (Some s) (Some k) None = refl
formed (Some s) (Some k) (Some bs) = formed_limiter s k (bytes_eq bs (45 ∷ [])) (number_of 8 bs)

-- the limiter that a field tells is written back
limiter_writes : (bs : List ℕ) (t : Bool) (o : Option ℕ) (l : Option ℕ) → bytes_eq bs (45 ∷ []) ≡ t → number_of 8 bs ≡ o → cond t (Some None) (option_map (λ n. Some n) o) ≡ Some l → limiter_text l ≡ bs
limiter_writes bs true o None p q h = sym ((bytes_eq-Decides bs (45 ∷ [])).0 p)
limiter_writes bs true o (Some n) p q h = cc
limiter_writes bs false None l p q h = cc
limiter_writes bs false (Some n) None p q h = cc
limiter_writes bs false (Some n) (Some m) p q h = let e : n ≡ m = cc in short_writes bs m (q ∙ ap (λ x. Some x) e)

with_back : (s : Side) (k : ℕ) (l : Option (Option ℕ)) (c : Flexible) → with_limiter s k l ≡ Some c → (s ≡ c.side) × (k ≡ c.strike) × (l ≡ Some c.limiter)
with_back s k None c h = cc
with_back s k (Some l) c h =
    let e : record { side = s; strike = k; limiter = l } ≡ c = cc in
    (ap (λ (d : Flexible). d.side) e, ap (λ (d : Flexible). d.strike) e, ap (λ (d : Flexible). Some d.limiter) e)

pub record Told (s : Option Side) (k : Option ℕ) (l : Option (List ℕ)) (c : Flexible) : Type 0 where
  pub side : s ≡ Some c.side
  pub strike : k ≡ Some c.strike
  pub limiter : l ≡ Some (limiter_text c.limiter)

back : (s : Option Side) (k : Option ℕ) (l : Option (List ℕ)) (c : Flexible) → flexible_of s k l ≡ Some c → Told s k l c
back None k l c h = cc
back (Some s) None l c h = cc
back (Some s) (Some k) None c h = cc
back (Some s) (Some k) (Some bs) c h =
    let p = with_back s k (limiter_of bs) c h in
    record {
      side = ap (λ x. Some x) p.0;
      strike = ap (λ x. Some x) p.1;
      limiter = ap (λ x. Some x) (sym (limiter_writes bs (bytes_eq bs (45 ∷ [])) (number_of 8 bs) c.limiter refl refl p.2));
    }

-- the parts of fitting that bound the numbers
right : (c : Flexible) (v u : ℕ) → flexible.fits c v u ≡ true → (strike_right c.strike ≡ true) × (limiter_right c.side c.strike c.limiter ≡ true)
right c v u f =
    let p = and_parts (strike_right c.strike) (limiter_right c.side c.strike c.limiter && limiter_fits c.side c.strike c.limiter v u) f in
    (p.0, (and_parts (limiter_right c.side c.strike c.limiter) (limiter_fits c.side c.strike c.limiter v u) p.1).0)

limiter_low : (s : Side) (k l : ℕ) → k ≤ 20000000 → limiter_right s k (Some l) ≡ true → l ≤ 20000000
limiter_low Call k l h r = leb-true l 20000000 (and_parts (nat_lt k l) (nat_le l 20000000) r).1
limiter_low Put k l h r = let b = ltb-true l k r in omega arith

not_dash : (n : ℕ) → n ≤ 20000000 → bytes_eq (decimal n) (45 ∷ []) ≡ false
not_dash n h =
    ⊎_elim
    (λ t.
    let e = (bytes_eq-Decides (decimal n) (45 ∷ [])).0 t in
    let d = subst (λ bs. all_ascii_digits bs ≡ true) e (digits_decimal own n (omega arith)) in
    cc)
    (λ f. f)
    (cases_Bool (bytes_eq (decimal n) (45 ∷ [])))

limiter_reads : (s : Side) (k : ℕ) (l : Option ℕ) → k ≤ 20000000 → limiter_right s k l ≡ true → limiter_of (limiter_text l) ≡ Some l
limiter_reads s k None h r = refl
limiter_reads s k (Some l) h r =
    let low = limiter_low s k l h r in
    ap₂ (λ t o. cond t (Some None) (option_map (λ n. Some n) o)) (not_dash l low) (short_reads l low)

limiter_length : (s : Side) (k : ℕ) (l : Option ℕ) → k ≤ 20000000 → limiter_right s k l ≡ true → length (limiter_text l) ≤ 8
limiter_length s k None h r = omega arith
limiter_length s k (Some l) h r = short_length l (limiter_low s k l h r)

pub flexible_storable : Storable flexible flexible_stored
flexible_storable = record {
  reads_formed = λ t. formed (side_of t.side) (number_of 8 t.strike) t.limiter ∙ ap (λ b. b && (is_some (number_of 8 t.strike) && limiter_formed (Some Limiter) t.limiter)) (side_formed t.side);
  reads_back = λ c v u f.
      let r = right c v u f in
      let k = strike_low c.strike r.0 in
      ap₂ (λ s n. flexible_of s n (Some (limiter_text c.limiter))) (side_reads c.side) (short_reads c.strike k) ∙ ap (with_limiter c.side c.strike) (limiter_reads c.side c.strike c.limiter k r.1);
  writes_back = λ t c h.
      let p = back (side_of t.side) (number_of 8 t.strike) t.limiter c h in
      let s = side_writes t.side c.side p.side in
      let k = short_writes t.strike c.strike p.strike in
      let l = sym p.limiter in
      λ i. record { side = s i; strike = k i; limiter = l i };
  short = λ c v u q f h.
      let r = right c v u f in
      let k = strike_low c.strike r.0 in
      let n = short_length c.strike k in
      let m = limiter_length c.side c.strike c.limiter k r.1 in
      let a = length-append (letter c.side ∷ 32 ∷ (decimal c.strike ++ (32 ∷ limiter_text c.limiter))) (32 ∷ (signed_decimal q ++ (10 ∷ []))) in
      omega (arith, h, n, m, a, length-append (decimal c.strike) (32 ∷ limiter_text c.limiter), length-append (signed_decimal q) (10 ∷ []));
  in_range = λ c v u f. let r = right c v u f in ap₂ (λ a b. refused (cond a (cond b (Ok c) (Err refusal.Limiter)) (Err refusal.Strike))) r.0 r.1;
}
