-- What follows for a market that no cause turns away.
use Rattle.std.proofs.Common.{◌≡◌, ℕ, ◌*◌, ◌≤◌, Bool, true, false, cond, ltb, is_some, Some, None, Option, refl, ap, ◌∙◌, mul-le-mul_right, mul_assoc, mul-le-mul, mul_left_comm, arith}
use Rattle.std.proofs.lemmas.Bool.{or_parts, ltb-false}
use Rattle.book.specs.declared.market.Market.{Market}
use Rattle.book.specs.declared.market_in_force.MarketInForce.{MarketInForce}
use Rattle.book.specs.Markets.{outside, market_refusal, IsMarket, Right, variation_of, price_unit}

none_past : {X : Type 0} (b : Bool) (x : X) (o : Option X) → cond b (Some x) o ≡ None → (b ≡ false) × (o ≡ None)
none_past true x o h = cc
none_past false x o h = (refl, h)

within : (n low high : ℕ) → outside n low high ≡ false → (low ≤ n) × (n ≤ high)
within n low high h =
    let p = or_parts (ltb n low) (ltb high n) h in
    (ltb-false n low p.0, ltb-false high n p.1)

pub none_from : {X : Type 0} (o : Option X) → is_some o ≡ false → o ≡ None
none_from None h = refl
none_from (Some x) h = cc

pub right : (m : Market) → IsMarket m → Right m
right m h =
    let a = none_past _ _ _ (none_from (market_refusal m) h) in
    let b = none_past _ _ _ a.1 in
    let c = none_past _ _ _ b.1 in
    let d = none_past _ _ _ c.1 in
    let e = none_past _ _ _ d.1 in
    let f = none_past _ _ _ e.1 in
    let ceiling = within m.ceiling 1 20000000 a.0 in
    let reference = within m.reference 1 m.ceiling b.0 in
    let factor = within m.factor 0 10000 c.0 in
    let size = within m.size 1 1000 d.0 in
    let rate = within m.rate 1 99999 e.0 in
    record {
      ceiling_some = ceiling.0;
      ceiling_low = ceiling.1;
      reference_some = reference.0;
      reference_low = reference.1;
      factor_low = factor.1;
      size_some = size.0;
      size_low = size.1;
      rate_some = rate.0;
      rate_low = rate.1;
      product_low = ltb-false 5000000000000 (m.ceiling * m.size * m.rate) f.0;
    }

-- a market in force has its ceiling in range
pub ceiling_low : (m : MarketInForce) → m.numbers.ceiling ≤ 20000000
ceiling_low m = (right m.numbers m.right).ceiling_low

pub unit_some : (m : Market) → Right m → 1 * 1 ≤ m.size * m.rate
unit_some m r = mul-le-mul r.size_some r.rate_some

-- what a book of at most 10,000 contracts is worth, in exact units, stays within 64 bits
pub product_most : (m : Market) → Right m → (n k : ℕ) → k ≤ 10000 → n ≤ k * m.ceiling → n * price_unit m ≤ 5000000000000000000
product_most m r n k few h =
    let a : n ≤ 10000 * m.ceiling = omega (arith, mul-le-mul_right m.ceiling few) in
    let b = mul-le-mul_right (price_unit m) a in
    let c : m.ceiling * (m.size * m.rate) ≤ 5000000000000 = omega (arith, r.product_low, mul_assoc m.ceiling m.size m.rate) in
    let d = mul_assoc 10000 m.ceiling (price_unit m) in
    let e : m.ceiling * price_unit m ≡ 100 * (m.ceiling * (m.size * m.rate)) = mul_left_comm m.ceiling 100 (m.size * m.rate) in
    omega (arith, b, c, d, e)

-- and so does what it is worth in a scenario
pub stressed_most : (m : Market) → Right m → 10000 * (100 * m.ceiling) * (m.size * m.rate) ≤ 5000000000000000000
stressed_most m r =
    let c : m.ceiling * (m.size * m.rate) ≤ 5000000000000 = omega (arith, r.product_low, mul_assoc m.ceiling m.size m.rate) in
    let a : 10000 * (100 * m.ceiling) ≡ 1000000 * m.ceiling = omega arith in
    let b = ap (λ n. n * (m.size * m.rate)) a ∙ mul_assoc 1000000 m.ceiling (m.size * m.rate) in
    omega (arith, b, c)

pub variation_low : (m : Market) → Right m → variation_of m ≤ 20000000
variation_low m r =
    let k : m.reference ≤ 20000000 = omega (arith, r.reference_low, r.ceiling_low) in
    omega (arith, mul-le-mul k r.factor_low)

pub unit_low : (m : Market) → Right m → m.size * m.rate ≤ 1000 * 99999
unit_low m r = mul-le-mul r.size_low r.rate_low
