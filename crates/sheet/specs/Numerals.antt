-- Numbers and quantities as fields: which fields are numbers, and that reading and writing are inverse.
use Rattle.std.specs.Prelude.{◌≡◌, ℕ, zero, suc, ◌^◌, ◌<◌, ◌≤◌, Bool, true, false, cond, ◌&&◌, List, [], ◌∷◌, length, ℤ, pos, negsuc, Some, None, decimal, Option, ◌==◌, ◌≢◌, nat_le, slice_index, unsigned_abs, refl}
use Rattle.std.proofs.Common.{drop, sym, ap, ap₂, ◌∙◌, subst, ⊎_elim, arith, rules}
use Rattle.std.proofs.Math.Nat.{pow-le-pow_right}
use Rattle.std.specs.Fmt.{signed_decimal}
use Rattle.std.specs.Str.{all_ascii_digits}
use Rattle.std.proofs.lemmas.Str.Parse.{IsNumeralModel, numerals_by_fold, tells_all_ascii_digits, digits_value_short, digit_at}
use Rattle.std.proofs.lemmas.Fmt.{decimal_digit, decimal_nonempty, length-decimal-le, first_decimal, digits_decimal, digits_value-decimal, decimal-digits_value}
use Rattle.std.proofs.lemmas.Option.{cond_some}
use Rattle.std.proofs.lemmas.Bool.{false≢true, and_parts, and_from, le-leb, leb-true, eqb-true, eq-eqb, ne_eqb, cases_Bool, not_from_false, not-true}
use Rattle.sheet.specs.Decimals.{read_on, well_led, is_number, number_of, negated, unsigned, quantity_of, NumbersInverse, QuantitiesInverse}

pub own : IsNumeralModel (λ ds. all_ascii_digits ds ≡ true) (read_on 0)
own = numerals_by_fold _ tells_all_ascii_digits read_on (search rules)

-- A field is a number, or none.
pub none_from : {X : Type 0} (b : Bool) (x : X) → (b ≢ true) → None ≡ cond b (Some x) None
none_from true x h = absurd (h refl)
none_from false x h = refl

pub some_from : {X : Type 0} (b : Bool) (x : X) → b ≡ true → Some x ≡ cond b (Some x) None
some_from b x h = sym (ap (λ t. cond t (Some x) None) h)

pub well_led_facts : (bs : List ℕ) → well_led bs ≡ true → (0 < length bs) × (slice_index bs 0 ≡ 48 → length bs ≡ 1)
well_led_facts [] h = cc
well_led_facts (b ∷ []) h = (omega arith, λ e. omega arith)
well_led_facts (b ∷ c ∷ bs) h = (omega arith, λ e. absurd (false≢true (sym (not-true (b == 48) h) ∙ eq-eqb b 48 e)))

pub well_led_from : (bs : List ℕ) → 0 < length bs → (slice_index bs 0 ≡ 48 → length bs ≡ 1) → well_led bs ≡ true
well_led_from [] l h = absurd (omega arith)
well_led_from (b ∷ []) l h = refl
well_led_from (b ∷ c ∷ bs) l h = not_from_false (b == 48) (ne_eqb b 48 (λ e. omega (arith, h e)))

pub record IsNumber (most : ℕ) (bs : List ℕ) : Type 0 where
  pub led : well_led bs ≡ true
  pub few : length bs ≤ most
  pub digits : all_ascii_digits bs ≡ true

pub number_facts : (most : ℕ) (bs : List ℕ) → is_number most bs ≡ true → IsNumber most bs
number_facts most bs h =
    let p = and_parts (well_led bs) (nat_le (length bs) most && all_ascii_digits bs) h in
    let q = and_parts (nat_le (length bs) most) (all_ascii_digits bs) p.1 in
    record { led = p.0; few = leb-true (length bs) most q.0; digits = q.1 }

pub number_from : (most : ℕ) (bs : List ℕ) → IsNumber most bs → is_number most bs ≡ true
number_from most bs f = and_from (well_led bs) (nat_le (length bs) most && all_ascii_digits bs) f.led (and_from (nat_le (length bs) most) (all_ascii_digits bs) (le-leb (length bs) most f.few) f.digits)

low_power : (most : ℕ) → most ≤ 10 → 10 ^ most ≤ 10 ^ 10
low_power most h = pow-le-pow_right {n = 10} (omega arith) h

pub numbers_inverse : (most : ℕ) → 0 < most → most ≤ 10 → NumbersInverse most
numbers_inverse most some few = record {
  written_reads = λ n l.
      let small : n < 2 ^ 64 = omega (arith, low_power most few) in
      let d = digits_decimal own n small in
      let led = well_led_from (decimal n) (decimal_nonempty n small) (lone n small) in
      let is = number_from most (decimal n) (record { led = led; few = length-decimal-le most n some l small; digits = d }) in
      ap (λ t. cond t (Some (read_on 0 (decimal n))) None) is ∙ ap Some (digits_value-decimal own n small);
  read_writes = λ bs n e.
      let p = cond_some (is_number most bs) (read_on 0 bs) n e in
      let f = number_facts most bs p.0 in
      let l = well_led_facts bs f.led in
      let short = digits_value_short own bs most f.digits f.few in
      let small : read_on 0 bs < 2 ^ 64 = omega (arith, low_power most few) in
      (subst (λ m. m < 10 ^ most) p.1 short, ap decimal (sym p.1) ∙ decimal-digits_value own bs f.digits l.0 l.1 small);
}
  where
    lone : (n : ℕ) → n < 2 ^ 64 → slice_index (decimal n) 0 ≡ 48 → length (decimal n) ≡ 1
    lone zero small h = ap length (decimal_digit 0 (omega arith))
    lone (suc n) small h = absurd (omega (arith, first_decimal (suc n) (omega arith) small))

-- at each width that a sheet has
pub short_numbers : NumbersInverse 8
short_numbers = numbers_inverse 8 (omega arith) (omega arith)

pub long_numbers : NumbersInverse 10
long_numbers = numbers_inverse 10 (omega arith) (omega arith)

-- A quantity without a minus is a number.
plain_quantity : (bs : List ℕ) → all_ascii_digits bs ≡ true → 0 < length bs → quantity_of bs ≡ unsigned (number_of 8 bs)
plain_quantity [] d l = absurd (omega arith)
plain_quantity (b ∷ bs) d l =
    let h = digit_at (b ∷ bs) 0 (own.to (b ∷ bs) d) (omega arith) in
    ap (λ t. cond t (negated (number_of 8 bs)) (unsigned (number_of 8 (b ∷ bs)))) (ne_eqb b 45 (λ e. omega (arith, h.0)))

pub minus_quantity : (bs : List ℕ) → 0 < length bs → slice_index bs 0 ≡ 45 → quantity_of bs ≡ negated (number_of 8 (drop 1 bs))
minus_quantity [] l e = absurd (omega arith)
minus_quantity (b ∷ bs) l e =
    ap (λ t. cond t (negated (number_of 8 bs)) (unsigned (number_of 8 (b ∷ bs)))) (eq-eqb b 45 e)

unsigned_some : (o : Option ℕ) (z : ℤ) → unsigned o ≡ Some z → (n : ℕ) × (o ≡ Some n) × (z ≡ pos n)
unsigned_some None z h = cc
unsigned_some (Some n) z h = (n, refl, cc)

negated_some : (o : Option ℕ) (z : ℤ) → negated o ≡ Some z → (n : ℕ) × (o ≡ Some (suc n)) × (z ≡ negsuc n)
negated_some None z h = cc
negated_some (Some zero) z h = cc
negated_some (Some (suc n)) z h = (n, refl, cc)

quantity_writes : (bs : List ℕ) (z : ℤ) → quantity_of bs ≡ Some z → (unsigned_abs z < 10 ^ 8) × (signed_decimal z ≡ bs)
quantity_writes [] z h = cc
quantity_writes (b ∷ bs) z h =
    ⊎_elim
    (λ t.
    let p = negated_some (number_of 8 bs) z (sym (ap (λ u. cond u (negated (number_of 8 bs)) (unsigned (number_of 8 (b ∷ bs)))) t) ∙ h) in
    let q = short_numbers.read_writes bs (suc p.0) p.1 in
    (subst (λ y. unsigned_abs y < 10 ^ 8) (sym p.2) q.0, ap signed_decimal p.2 ∙ ap₂ (λ c cs. c ∷ cs) (sym (eqb-true b 45 t)) q.1))
    (λ t.
    let p = unsigned_some (number_of 8 (b ∷ bs)) z (sym (ap (λ u. cond u (negated (number_of 8 bs)) (unsigned (number_of 8 (b ∷ bs)))) t) ∙ h) in
    let q = short_numbers.read_writes (b ∷ bs) p.0 p.1 in
    (subst (λ y. unsigned_abs y < 10 ^ 8) (sym p.2) q.0, ap signed_decimal p.2 ∙ q.1))
    (cases_Bool (b == 45))

quantity_reads : (z : ℤ) → unsigned_abs z < 10 ^ 8 → quantity_of (signed_decimal z) ≡ Some z
quantity_reads (pos n) l =
    let small : n < 2 ^ 64 = omega arith in
    plain_quantity (decimal n) (digits_decimal own n small) (decimal_nonempty n small) ∙ ap unsigned (short_numbers.written_reads n l)
quantity_reads (negsuc n) l = ap negated (short_numbers.written_reads (suc n) l)

pub quantities_inverse : QuantitiesInverse
quantities_inverse = record { written_reads = quantity_reads; read_writes = quantity_writes }
