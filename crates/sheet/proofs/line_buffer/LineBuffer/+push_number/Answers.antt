use Rattle.std.proofs.Common.{◌+◌, ◌/◌, ◌%◌, [], ◌∷◌, ◌++◌, length, decimal, sym, ap, ◌∙◌, append_assoc, arith, length-append, rules}
use Rattle.std.proofs.lemmas.Fmt.{decimal_digit, decimal_step, decimal_nonempty}
use Rattle.std.proofs.lemmas.List.{length_push}
use Rattle.sheet.specs.LineTexts.{line_text}
use Rattle.sheet.proofs.line_buffer.LineBuffer.+push_number.Goals as goal
use Rattle.sheet.proofs.line_buffer.LineBuffer.+push_number.Goals.{then-n-ge10, else-n-ge10}

pub push_number-requires : goal.push_number-requires
push_number-requires t c =
    let n = c.args.n in
    let e = ap length (decimal_step n c.if-n-ge10.true (omega arith)) ∙ length_push (decimal (n / 10)) (48 + n % 10) in
    (search rules, omega (arith, c.requires, e))

pub push-requires : goal.push-requires
push-requires t c =
    let n = c.args.n in
    elim c.if-n-ge10.branch [
      | then-n-ge10 w ↦
          let e = ap length (decimal_step n w.if-n-ge10.true (omega arith)) ∙ length_push (decimal (n / 10)) (48 + n % 10) in
          let k = ap (λ b. length (line_text b)) w.self-is ∙ ap length w.push_number.ensures ∙ length-append (line_text c.args.self.now) (decimal (n / 10)) in
          omega (arith, c.requires, e, k)
      | else-n-ge10 w ↦
          let k = ap (λ b. length (line_text b)) w.self-is in
          omega (arith, c.requires, k, decimal_nonempty n (omega arith))
    ]

pub returns : goal.returns
returns t c =
    let n = c.args.n in
    let old = line_text c.args.self.now in
    let last = (48 + n % 10) ∷ [] in
    elim c.if-n-ge10.branch [
      | then-n-ge10 w ↦
          c.push.ensures ∙ ap (λ b. line_text b ++ last) w.self-is ∙ ap (λ l. l ++ last) w.push_number.ensures ∙ append_assoc old (decimal (n / 10)) last ∙ ap (λ l. old ++ l) (sym (decimal_step n w.if-n-ge10.true (omega arith)))
      | else-n-ge10 w ↦
          c.push.ensures ∙ ap (λ b. line_text b ++ last) w.self-is ∙ ap (λ l. old ++ l) (ap (λ d. (48 + d) ∷ []) (omega (arith, w.if-n-ge10.false)) ∙ sym (decimal_digit n w.if-n-ge10.false))
    ]
