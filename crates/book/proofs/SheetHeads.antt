-- The seven lines above the positions: where they have no fault the position lines decide.
use Rattle.std.proofs.Common.{◌≡◌, ℕ, ◌+◌, ◌≤◌, [], Ok, sym, ◌∙◌}
use Rattle.kinds.specs.Kinds.{Meaning}
use Rattle.sheet.specs.declared.reader.Reader.{Reader}
use Rattle.sheet.specs.StoredKinds.{Storing}
use Rattle.book.specs.declared.market_in_force.MarketInForce.{MarketInForce}
use Rattle.book.specs.SheetReading.{after_lines, unread, head_number, market_told, count_told, market_fault, head_fault, positions_fault, lines_fault, ReadOn}
use Rattle.book.proofs.ReadingLines.{Gone, starts, goes_on, tells_there}

module _ {C : Type 0} (K : Meaning C) (s : Storing C) (places : ℕ) (r0 : Reader) where
  pub start : r0.lines ≡ 0 → Gone 0 r0 0 r0 (lines_fault K s places (unread r0)) (lines_fault K s places (unread r0))
  start h = starts 0 r0 (lines_fault K s places (unread r0)) h

  pub record HeadRead (r7 : Reader) (m : MarketInForce) (count : ℕ) : Type 0 where
    pub same : r7.sheet.now ≡ r0.sheet.now
    pub at : unread r7 ≡ after_lines 7 (unread r0)
    pub market : market_told (unread r0) ≡ m.numbers
    pub count_is : count_told (unread r0) ≡ count
    pub left : lines_fault K s places (unread r0) ≡ positions_fault K s m.numbers count (r7.lines + 1) [] (unread r7)

  pub head_read : {r6 r7 : Reader} {m : MarketInForce} {count : ℕ} → r0.lines ≡ 0 → ReadOn 6 (λ x. market_fault) (λ bs n. market_told bs ≡ n.numbers) r0 r6 (Ok m) → ReadOn 1 (λ line. head_fault line places) (λ bs n. (head_number bs ≡ n) × (n ≤ places)) r6 r7 (Ok count) → HeadRead r7 m count
  head_read h market count =
      let g6 = goes_on market (start h) in
      let g7 = goes_on count g6 in
      let m = tells_there market (start h) in
      let n = tells_there count g6 in
      record {
        same = g7.same;
        at = g7.at;
        market = m;
        count_is = n.0;
        left = g7.is ∙ λ i. positions_fault K s (m i) (n.0 i) (sym g7.lines i + 1) [] (sym g7.at i);
      }
