-- Listed options keep the laws of a stored kind.
use Rattle.std.specs.Prelude.{◌≡◌, ℕ, true, cond, ◌&&◌, List, [], ◌∷◌, ◌++◌, is_some, Some, None, decimal, Option, refl}
use Rattle.std.proofs.Common.{sym, ap, ap₂, ◌∙◌, arith, length-append}
use Rattle.std.specs.Fmt.{signed_decimal}
use Rattle.std.proofs.lemmas.Bool.{and_parts}
use Rattle.kinds.specs.declared.side.Side.{Side}
use Rattle.kinds.specs.declared.listed.Listed.{Listed}
use Rattle.kinds.specs.Sides.{strike_right, side_fits}
use Rattle.kinds.specs.ListedOptions.{listed}
use Rattle.kinds.specs.declared.contract_refusal.ContractRefusal.TheVariants.{Strike}
use Rattle.sheet.specs.Decimals.{number_of}
use Rattle.sheet.specs.ListedLines.{letter, side_of, listed_of, listed_stored}
use Rattle.sheet.specs.StoredKinds.{Storable, limiter_formed}
use Rattle.sheet.specs.Letters.{side_formed, side_reads, side_writes, short_reads, short_writes, short_length, strike_low}

formed : (s : Option Side) (k : Option ℕ) (l : Option (List ℕ)) → is_some (listed_of s k l) ≡ (is_some s && (is_some k && limiter_formed None l))
formed None k l = refl
formed (Some s) None l = refl
formed (Some s) (Some k) None = refl
formed (Some s) (Some k) (Some l) = refl

back : (s : Option Side) (k : Option ℕ) (l : Option (List ℕ)) (c : Listed) → listed_of s k l ≡ Some c → (s ≡ Some c.side) × (k ≡ Some c.strike) × (l ≡ None)
back None k l c h = cc
back (Some s) None l c h = cc
back (Some s) (Some k) None c h =
    let e : record { side = s; strike = k } ≡ c = cc in
    (ap (λ (d : Listed). Some d.side) e, ap (λ (d : Listed). Some d.strike) e, refl)
back (Some s) (Some k) (Some l) c h = cc

right : (c : Listed) (v u : ℕ) → listed.fits c v u ≡ true → strike_right c.strike ≡ true
right c v u f = (and_parts (strike_right c.strike) (side_fits c.side c.strike v u) f).0

pub listed_storable : Storable listed listed_stored
listed_storable = record {
  reads_formed = λ t. formed (side_of t.side) (number_of 8 t.strike) t.limiter ∙ ap (λ b. b && (is_some (number_of 8 t.strike) && limiter_formed None t.limiter)) (side_formed t.side);
  reads_back = λ c v u f. ap₂ (λ s k. listed_of s k None) (side_reads c.side) (short_reads c.strike (strike_low c.strike (right c v u f)));
  writes_back = λ t c h.
      let p = back (side_of t.side) (number_of 8 t.strike) t.limiter c h in
      let s = side_writes t.side c.side p.0 in
      let k = short_writes t.strike c.strike p.1 in
      let l = sym p.2 in
      λ i. record { side = s i; strike = k i; limiter = l i };
  short = λ c v u q f h.
      let k = short_length c.strike (strike_low c.strike (right c v u f)) in
      let a = length-append (letter c.side ∷ 32 ∷ (decimal c.strike ++ [])) (32 ∷ (signed_decimal q ++ (10 ∷ []))) in
      omega (arith, h, k, a, length-append (decimal c.strike) [], length-append (signed_decimal q) (10 ∷ []));
  in_range = λ c v u f. ap (λ b. cond b None (Some Strike)) (right c v u f);
}
