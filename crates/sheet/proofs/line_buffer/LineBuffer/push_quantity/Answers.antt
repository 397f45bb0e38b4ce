use Rattle.std.proofs.Common.{◌≡◌, [], ◌∷◌, ◌++◌, length, ℤ, pos, negsuc, nat_abs, ◌<ℤ◌, ◌≤ℤ◌, decimal, sym, refl, ap, ◌∙◌, append_assoc, length-append, arith, rules}
use borrow.Author.Differences.{ints}
use Rattle.std.specs.Fmt.{signed_decimal}
use Rattle.sheet.specs.LineTexts.{line_text}
use Rattle.sheet.proofs.line_buffer.LineBuffer.push_quantity.Goals as goal
use Rattle.sheet.proofs.line_buffer.LineBuffer.push_quantity.Goals.{After-unsigned_abs, then-quantity-lt0, else-quantity-lt0}

signed_minus : (z : ℤ) → z <ℤ pos 0 → signed_decimal z ≡ 45 ∷ decimal (nat_abs z)
signed_minus (pos n) h = absurd (omega (arith, ints))
signed_minus (negsuc n) h = refl

signed_plus : (z : ℤ) → pos 0 ≤ℤ z → signed_decimal z ≡ decimal (nat_abs z)
signed_plus (pos n) h = refl
signed_plus (negsuc n) h = absurd (omega (arith, ints))

-- the digits behind what stands there make the quantity
whole : (c : After-unsigned_abs) → line_text c.if-quantity-lt0.self ++ decimal c.unsigned_abs.result ≡ line_text c.args.self.now ++ signed_decimal c.args.quantity
whole c =
    let z = c.args.quantity in
    let old = line_text c.args.self.now in
    let s : c.unsigned_abs.result ≡ nat_abs z = search rules in
    elim c.if-quantity-lt0.branch [
      | then-quantity-lt0 w ↦
          let t = w.if-quantity-lt0.true in
          let b : z <ℤ pos 0 = omega (arith, ints) in
          ap (λ l. line_text l ++ decimal c.unsigned_abs.result) w.self-is ∙ ap (λ l. l ++ decimal c.unsigned_abs.result) w.push.ensures ∙ append_assoc old (45 ∷ []) (decimal c.unsigned_abs.result) ∙ ap (λ n. old ++ 45 ∷ decimal n) s ∙ ap (λ l. old ++ l) (sym (signed_minus z b))
      | else-quantity-lt0 w ↦
          let t = w.if-quantity-lt0.false in
          let b : pos 0 ≤ℤ z = omega (arith, ints) in
          ap (λ l. line_text l ++ decimal c.unsigned_abs.result) w.self-is ∙ ap (λ n. old ++ decimal n) s ∙ ap (λ l. old ++ l) (sym (signed_plus z b))
    ]

pub push_number-requires : goal.push_number-requires
push_number-requires c =
    omega (arith, c.requires, ap length (whole c), length-append (line_text c.if-quantity-lt0.self) (decimal c.unsigned_abs.result), length-append (line_text c.args.self.now) (signed_decimal c.args.quantity))

pub returns : goal.returns
returns c = c.push_number.ensures ∙ whole (goal.at.returns c).After-unsigned_abs
