-- Sheets and books that keep the rules are the same: a written book reads back, and an accepted sheet is written back.
use Rattle.std.proofs.Common.{◌≡◌, ℕ, ◌+◌, ◌*◌, ◌^◌, ◌<◌, ◌≤◌, true, ltb, List, [], ◌∷◌, ◌++◌, length, None, decimal, sym, refl, ap, ◌∙◌, ap₂, arith, length-append}
use Rattle.std.proofs.lemmas.Fmt.{length-decimal-le}
use Rattle.std.proofs.lemmas.Bool.{ltb-false, le-ltb}
use Rattle.kinds.specs.Kinds.{Meaning}
use Rattle.sheet.specs.declared.market_number.MarketNumber.TheVariants as market_number
use Rattle.sheet.specs.declared.fault.Fault.TheVariants as fault
use Rattle.sheet.specs.declared.fault.BookCause.TheVariants as book_cause
use Rattle.sheet.specs.declared.form.Word.{Word}
use Rattle.sheet.specs.declared.form.Word.TheVariants.{Market, Positions}
use Rattle.sheet.specs.Cuts.{after}
use Rattle.sheet.specs.Decimals.{read_on}
use Rattle.sheet.specs.Forms.{word_bytes, head_forms, well_formed}
use Rattle.sheet.specs.LineBytes.{number_bytes, head_bytes}
use Rattle.sheet.specs.ReadLines.{number_forms}
use Rattle.sheet.specs.StoredKinds.{Storing, Storable}
use Rattle.book.specs.SheetLaws.{Readable, IsSheet}
use Rattle.book.specs.SheetReading.{past, after_lines, field_at, number_at, market_told, count_told, positions_told, tally_told, or_fault, malformed, when, number_fault, market_fault, head_fault, positions_fault, sheet_fault}
use Rattle.book.specs.SheetTexts.{sheet_of}
use Rattle.book.specs.Tallies.{Tally, Valid}
use Rattle.book.proofs.MarketFacts.{right}
use Rattle.book.proofs.FinePositions.{fine_fitting, fine_held, fine_gross, fine_distinct, all_fine}
use Rattle.book.proofs.SheetFaults.{or_both, when_not, not_when, well_from, from_well, number_none, MarketRight, market_right, is_market}
use Rattle.book.proofs.SheetLines.{number_formed, number_reads, number_back, five_formed, head_reads, market_back, positions_back}
use Rattle.book.proofs.SheetPositions.{lines_of, lines_length, lines_read, LinesAccepted, lines_accepted}

-- The sheet of every tally that keeps the rules reads back.
abbrev ReadsBack : {C : Type 0} → Meaning C → Storing C → Type 0
ReadsBack {C} K s = (t : Tally C) → Valid K t → Readable K s t

-- An accepted sheet is, byte for byte, the sheet of the tally that it tells.
abbrev WrittenBack : {C : Type 0} → Meaning C → Storing C → Type 0
WrittenBack K s = (places : ℕ) (bs : List ℕ) → sheet_fault K s places bs ≡ None → sheet_of s (tally_told s places bs) ≡ bs

-- And that tally keeps the rules.
abbrev AcceptedValid : {C : Type 0} → Meaning C → Storing C → Type 0
AcceptedValid K s = (places : ℕ) (bs : List ℕ) → 1 ≤ places → places ≤ 128 → sheet_fault K s places bs ≡ None → Valid K (tally_told s places bs)

-- Reading accepts exactly the sheets of books that keep the rules.
abbrev AcceptsExactly : {C : Type 0} → Meaning C → Storing C → Type 0
AcceptsExactly K s =
    (places : ℕ) (bs : List ℕ) → 1 ≤ places → places ≤ 128 →
    (sheet_fault K s places bs ≡ None → IsSheet K s places bs) × (IsSheet K s places bs → sheet_fault K s places bs ≡ None)

-- how long lines are
number_length : (n : ℕ) → n < 10 ^ 8 → length (number_bytes n) ≤ 9
number_length n l = omega (arith, length-append (decimal n) (10 ∷ []), length-decimal-le 8 n (omega arith) l (omega arith))

head_length : (w : Word) (n : ℕ) → n < 10 ^ 8 → length (head_bytes w n) ≤ length (word_bytes w) + 10
head_length w n l = omega (arith, length-append (word_bytes w) (32 ∷ number_bytes n), number_length n l)

-- the bytes after a line, and the number that a line tells
abbrev next : List ℕ → List ℕ
next bs = past (after 10 bs)

abbrev number_in : List ℕ → ℕ
number_in bs = read_on 0 (field_at 0 bs)

module _ {C : Type 0} (K : Meaning C) (s : Storing C) (laws : Storable K s) where
  pub reads_back : ReadsBack K s
  reads_back t v places enough =
      let m = t.market in
      let ps = t.positions in
      let r = right m v.right in
      let few : length ps ≤ 128 = omega (arith, v.within, v.places_most) in
      let c₁ : m.ceiling < 10 ^ 8 = omega (arith, r.ceiling_low) in
      let c₂ : m.reference < 10 ^ 8 = omega (arith, r.reference_low, r.ceiling_low) in
      let c₃ : m.factor < 10 ^ 8 = omega (arith, r.factor_low) in
      let c₄ : m.size < 10 ^ 8 = omega (arith, r.size_low) in
      let c₅ : m.rate < 10 ^ 8 = omega (arith, r.rate_low) in
      let c₆ : length ps < 10 ^ 8 = omega arith in
      let b₇ = lines_of s ps in
      let b₆ = head_bytes Positions (length ps) ++ b₇ in
      let b₅ = number_bytes m.rate ++ b₆ in
      let b₄ = number_bytes m.size ++ b₅ in
      let b₃ = number_bytes m.factor ++ b₄ in
      let b₂ = number_bytes m.reference ++ b₃ in
      let b₁ = number_bytes m.ceiling ++ b₂ in
      let bs = head_bytes Market 5 ++ b₁ in
      let l₀ = head_reads Market 5 b₁ five_formed (omega arith) in
      let l₁ = number_reads m.ceiling b₂ c₁ in
      let l₂ = number_reads m.reference b₃ c₂ in
      let l₃ = number_reads m.factor b₄ c₃ in
      let l₄ = number_reads m.size b₅ c₄ in
      let l₅ = number_reads m.rate b₆ c₅ in
      let l₆ = head_reads Positions (length ps) b₇ (number_formed (length ps) c₆) c₆ in
      -- the bytes after each line
      let e₁ : after_lines 1 bs ≡ b₁ = l₀.on in
      let e₂ : after_lines 2 bs ≡ b₂ = ap next e₁ ∙ l₁.on in
      let e₃ : after_lines 3 bs ≡ b₃ = ap next e₂ ∙ l₂.on in
      let e₄ : after_lines 4 bs ≡ b₄ = ap next e₃ ∙ l₃.on in
      let e₅ : after_lines 5 bs ≡ b₅ = ap next e₄ ∙ l₄.on in
      let e₆ : after_lines 6 bs ≡ b₆ = ap next e₅ ∙ l₅.on in
      let e₇ : after_lines 7 bs ≡ b₇ = ap next e₆ ∙ l₆.on in
      -- what each line tells
      let n₁ : number_at 1 bs ≡ m.ceiling = ap number_in e₁ ∙ l₁.tells in
      let n₂ : number_at 2 bs ≡ m.reference = ap number_in e₂ ∙ l₂.tells in
      let n₃ : number_at 3 bs ≡ m.factor = ap number_in e₃ ∙ l₃.tells in
      let n₄ : number_at 4 bs ≡ m.size = ap number_in e₄ ∙ l₄.tells in
      let n₅ : number_at 5 bs ≡ m.rate = ap number_in e₅ ∙ l₅.tells in
      let n₆ : count_told bs ≡ length ps = ap (λ cs. read_on 0 (field_at 1 cs)) e₆ ∙ l₆.tells in
      let told : market_told bs ≡ m = λ i. record { ceiling = n₁ i; reference = n₂ i; factor = n₃ i; size = n₄ i; rate = n₅ i } in
      let product : number_at 1 bs * number_at 4 bs * number_at 5 bs ≡ m.ceiling * m.size * m.rate = λ i. n₁ i * n₄ i * n₅ i in
      let fine = all_fine K s m laws [] ps v.kept.fitting v.held (omega (arith, v.few)) v.kept.distinct in
      let lines = lines_read K s laws m 8 [] ps fine in
      let short : length bs ≤ 65536 =
      omega (
        arith,
        few,
        length-append (head_bytes Market 5) b₁,
        length-append (number_bytes m.ceiling) b₂,
        length-append (number_bytes m.reference) b₃,
        length-append (number_bytes m.factor) b₄,
        length-append (number_bytes m.size) b₅,
        length-append (number_bytes m.rate) b₆,
        length-append (head_bytes Positions (length ps)) b₇,
        head_length Market 5 (omega arith),
        number_length m.ceiling c₁,
        number_length m.reference c₂,
        number_length m.factor c₃,
        number_length m.size c₄,
        number_length m.rate c₅,
        head_length Positions (length ps) c₆,
        lines_length K s laws m [] ps fine,
      ) in
      let market : market_fault bs ≡ None =
      ap₂ or_fault (from_well 1 (head_forms Market) bs l₀.well)
      (ap₂ or_fault (ap (number_fault 2 market_number.Ceiling 1 20000000) e₁ ∙ number_none 2 market_number.Ceiling 1 20000000 m.ceiling b₁ b₂ l₁ r.ceiling_some r.ceiling_low)
      (ap₂ or_fault (ap₂ (number_fault 3 market_number.Reference 1) n₁ e₂ ∙ number_none 3 market_number.Reference 1 m.ceiling m.reference b₂ b₃ l₂ r.reference_some r.reference_low)
      (ap₂ or_fault (ap (number_fault 4 market_number.Factor 0 10000) e₃ ∙ number_none 4 market_number.Factor 0 10000 m.factor b₃ b₄ l₃ (omega arith) r.factor_low)
      (ap₂ or_fault (ap (number_fault 5 market_number.Size 1 1000) e₄ ∙ number_none 5 market_number.Size 1 1000 m.size b₄ b₅ l₄ r.size_some r.size_low)
      (ap₂ or_fault (ap (number_fault 6 market_number.Rate 1 99999) e₅ ∙ number_none 6 market_number.Rate 1 99999 m.rate b₅ b₆ l₅ r.rate_some r.rate_low)
      (not_when _ (fault.Book 6 book_cause.Product) (ap (ltb 5000000000000) product ∙ le-ltb 5000000000000 (m.ceiling * m.size * m.rate) r.product_low))))))) in
      let head : head_fault 7 places (after_lines 6 bs) ≡ None =
      ap (head_fault 7 places) e₆
      ∙ ap₂ or_fault (from_well 7 (head_forms Positions) b₆ l₆.well) (not_when _ (fault.Book 7 book_cause.Places) (ap (ltb places) l₆.tells ∙ le-ltb places (length ps) enough)) in
      let positions : positions_fault K s (market_told bs) (count_told bs) 8 [] (after_lines 7 bs) ≡ None =
      (λ i. positions_fault K s (told i) (n₆ i) 8 [] (e₇ i)) ∙ lines.0 in (
        ap₂ or_fault (not_when _ (fault.Book 0 book_cause.TooLong) (le-ltb 65536 (length bs) short)) (ap₂ or_fault market (ap₂ or_fault head positions)),
        let all : positions_told s (count_told bs) (after_lines 7 bs) ≡ ps = (λ i. positions_told s (n₆ i) (e₇ i)) ∙ lines.1 in
            λ i. record { places = places; market = told i; positions = all i },
      )

  -- What an accepted sheet tells.
  record Telling (places : ℕ) (bs : List ℕ) : Type 0 where
    pub market : MarketRight bs
    pub head : well_formed (head_forms Positions) (after_lines 6 bs) ≡ true
    pub enough : count_told bs ≤ places
    pub lines : LinesAccepted K s laws (market_told bs) (count_told bs) [] (after_lines 7 bs) (positions_told s (count_told bs) (after_lines 7 bs))

  accepted : (places : ℕ) (bs : List ℕ) → sheet_fault K s places bs ≡ None → Telling places bs
  accepted places bs h =
      let a = or_both (when (ltb 65536 (length bs)) (fault.Book 0 book_cause.TooLong)) _ h in
      let b = or_both (market_fault bs) _ a.1 in
      let c = or_both (head_fault 7 places (after_lines 6 bs)) _ b.1 in
      let d = or_both (malformed 7 (head_forms Positions) (after_lines 6 bs)) _ c.0 in
      record {
        market = market_right bs b.0;
        head = well_from 7 (head_forms Positions) (after_lines 6 bs) d.0;
        enough = ltb-false places (count_told bs) (when_not _ _ d.1);
        lines = lines_accepted K s laws (market_told bs) (count_told bs) 8 [] (after_lines 7 bs) c.1;
      }

  pub written_back : WrittenBack K s
  written_back places bs h =
      let a = accepted places bs h in
      let m = a.market in
      let ps = positions_told s (count_told bs) (after_lines 7 bs) in
      let after_head : head_bytes Positions (length ps) ++ lines_of s ps ≡ after_lines 6 bs =
      ap₂ (λ n cs. head_bytes Positions n ++ cs) a.lines.count a.lines.bytes ∙ positions_back (after_lines 6 bs) a.head in
      let number : (k : ℕ) (cs : List ℕ) → cs ≡ next (after_lines k bs) → well_formed number_forms (after_lines k bs) ≡ true → number_bytes (number_at k bs) ++ cs ≡ after_lines k bs
      = λ k cs e w. ap (λ ds. number_bytes (number_at k bs) ++ ds) e ∙ number_back (after_lines k bs) w in
      ap (λ cs. head_bytes Market 5 ++ cs)
      (number 1 _ (number 2 _ (number 3 _ (number 4 _ (number 5 _ after_head m.rate.well) m.size.well) m.factor.well) m.reference.well) m.ceiling.well)
      ∙ market_back bs m.head

  pub accepted_valid : AcceptedValid K s
  accepted_valid places bs some most h =
      let a = accepted places bs h in
      let m = market_told bs in
      let ps = positions_told s (count_told bs) (after_lines 7 bs) in
      let f = a.lines.fine in
      record {
        places_some = some;
        places_most = most;
        within = omega (arith, a.lines.count, a.enough);
        right = is_market bs a.market;
        few = omega (arith, fine_gross K s m [] ps (omega arith) f);
        held = fine_held K s m [] ps f;
        kept = record { fitting = fine_fitting K s m [] ps f; distinct = fine_distinct K s m [] ps tt f };
      }

  pub accepts_exactly : AcceptsExactly K s
  accepts_exactly places bs some most = (
    (λ h. record { tally = tally_told s places bs; valid = accepted_valid places bs some most h; places_are = refl; bytes_are = written_back places bs h }),
    λ i. ap₂ (sheet_fault K s) (sym i.places_are) (sym i.bytes_are) ∙ (reads_back i.tally i.valid i.tally.places i.valid.within).0,
  )
