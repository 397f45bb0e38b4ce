use Rattle.std.proofs.Common.{◌≡◌, ◌<◌, ◌≤◌, ◌++◌, length, drop, refl, ap, ◌∙◌, arith}
use Rattle.std.specs.List.{flat_map}
use Rattle.book.specs.SheetTexts.{position_line, sheet_of}
use Rattle.book.specs.Tallies.{tally_of}
use Rattle.book.proofs.JoinedLines.{readable, head_text, sheet_parts, parts_fit, heads_made, heads_length, put_room, put_next, put_none, put_all}
use Rattle.book.proofs.book.Book.write.Goals as goal

pub put_line-at-requires : goal.put_line-at-requires
put_line-at-requires g c =
    let s = g.K.Stored.stored in
    let t = tally_of c.args.self.now in
    let heads = c.head_lines.result in
    let fit = parts_fit s t c.sheet_len-needed.result (length c.args.out.now) c.sheet_len-needed.ensures c.if-out-needed.false in
    let inside : c.loop-line.line-index < length heads = omega (arith, c.loop-line-test.true, heads_length s t heads c.head_lines.ensures) in
    let room = put_room c.line-item.result c.loop-line.invariant inside refl in
    omega (arith, fit, room, ap length (heads_made s t heads c.head_lines.ensures), c.loop-line.auto.out)

pub loop-line-preserved : goal.loop-line-preserved
loop-line-preserved g c =
    let heads = c.head_lines.result in
    let inside : c.loop-line.line-index < length heads = omega (arith, c.loop-line-test.true, heads_length g.K.Stored.stored (tally_of c.args.self.now) heads c.head_lines.ensures) in
    put_next c.line-item.result c.loop-line.invariant inside refl c.put_line-at.ensures.end c.put_line-at.ensures.put

pub loop-position-init : goal.loop-position-init
loop-position-init g c =
    let s = g.K.Stored.stored in
    let t = tally_of c.args.self.now in
    let heads = c.head_lines.result in
    let done : length heads ≤ c.loop-line.line-index = omega (arith, c.loop-line-test.false, heads_length s t heads c.head_lines.ensures) in
    let all = put_all c.loop-line.invariant done (heads_made s t heads c.head_lines.ensures) in
    put_none all.0 all.1

pub put_line-at-requires-in-loop-position : goal.put_line-at-requires-in-loop-position
put_line-at-requires-in-loop-position g c =
    let s = g.K.Stored.stored in
    let fit = parts_fit s (tally_of c.args.self.now) c.sheet_len-needed.result (length c.args.out.now) c.sheet_len-needed.ensures c.if-out-needed.false in
    let room = put_room c.position-item.result c.loop-position.invariant c.loop-position-test.true (c.line.ensures ∙ ap (position_line s) c.position-item.is) in
    omega (arith, fit, room, ap (λ ps. length (flat_map (position_line s) ps)) c.deref-position-items.ensures.value, c.loop-position.auto.out, c.loop-line.auto.out)

pub loop-position-preserved : goal.loop-position-preserved
loop-position-preserved g c =
    put_next c.position-item.result c.loop-position.invariant c.loop-position-test.true (c.line.ensures ∙ ap (position_line g.K.Stored.stored) c.position-item.is)
    c.put_line-at-in-loop-position.ensures.end c.put_line-at-in-loop-position.ensures.put

pub returns-clause-told : goal.returns-clause-told
returns-clause-told g c =
    let s = g.K.Stored.stored in
    let t = tally_of c.args.self.now in
    let whole : head_text s t ++ flat_map (position_line s) c.deref-position-items.result.now ≡ sheet_of s t = ap (λ ps. head_text s t ++ flat_map (position_line s) ps) c.deref-position-items.ensures.value ∙ sheet_parts s t in
    let all = put_all c.loop-position.invariant c.loop-position-test.false whole in (
      c.sheet_len-needed.ensures,
      omega (arith, c.sheet_len-needed.ensures, c.if-out-needed.false),
      all.1 ∙ ap (λ n. sheet_of s t ++ drop n c.args.out.now) all.0,
    )

pub returns-clause-readable : goal.returns-clause-readable
returns-clause-readable g c = readable g.K.Stored.stored g.met.K.Stored.storable c.args.self.now

pub returns-then-out-needed-clause-readable : goal.returns-then-out-needed-clause-readable
returns-then-out-needed-clause-readable g c = readable g.K.Stored.stored g.met.K.Stored.storable c.args.self.now
