use Rattle.std.proofs.Common.{◌^◌, length, vec_items, ◌∙◌, arith, rules}
use Rattle.std.proofs.lemmas.Iterator.{YieldsList-from_slice, YieldsList-from_map}
use Rattle.std.proofs.lemmas.Iterator.Consumers.{YieldsList-at, YieldsList-from_chain, sum_from_yields_List, fits_from_yields_list}
use Rattle.sheet.specs.LineTexts.{line_text}
use Rattle.book.specs.SheetTexts.{position_line}
use Rattle.book.specs.Tallies.{tally_of}
use Rattle.book.proofs.JoinedLines.{length_made, sheet_short}
use Rattle.book.proofs.book.Book.sheet_len.Goals as goal

pub sum-requires-clause-fits : goal.sum-requires-clause-fits
sum-requires-clause-fits g c =
    let s = g.K.Stored.stored in
    let book = c.args.self.now in
    let t = tally_of book in
    fits_from_yields_list _ (2 ^ 64)
    (YieldsList-from_chain
    (YieldsList-at c.chain.ensures.first (YieldsList-from_map _ (λ l. length (line_text l)) (YieldsList-from_slice c.head_lines-lines.result cc) c.map-heads.ensures.closure (λ x r q k. search rules)))
    (YieldsList-at c.chain.ensures.second (YieldsList-from_map _ (λ p. length (position_line s p)) (YieldsList-from_slice (vec_items book.positions) cc) c.map-positions.ensures.closure (λ x r q k. search rules)))
    c.chain.ensures.first_done c.chain.ensures.second_done)
    (omega (arith, length_made s t c.head_lines-lines.result c.head_lines-lines.ensures, sheet_short s g.met.K.Stored.storable book))

pub returns : goal.returns
returns g c =
    let s = g.K.Stored.stored in
    let book = c.args.self.now in
    let t = tally_of book in
    sum_from_yields_List _ _ c.sum.ensures.ran
    (YieldsList-from_chain
    (YieldsList-at c.chain.ensures.first (YieldsList-from_map _ (λ l. length (line_text l)) (YieldsList-from_slice c.head_lines-lines.result cc) c.map-heads.ensures.closure (λ x r q k. search rules)))
    (YieldsList-at c.chain.ensures.second (YieldsList-from_map _ (λ p. length (position_line s p)) (YieldsList-from_slice (vec_items book.positions) cc) c.map-positions.ensures.closure (λ x r q k. search rules)))
    c.chain.ensures.first_done c.chain.ensures.second_done)
    ∙ length_made s t c.head_lines-lines.result c.head_lines-lines.ensures
