-- The lines of a sheet as they are made and put one behind another into a buffer.
use Rattle.std.proofs.Common.{◌≡◌, ℕ, ◌+◌, ◌<◌, ◌≤◌, List, ◌++◌, map, length, vec_items, sum, get_or, take, drop, sym, ap, ◌∙◌, ap₂, append_assoc, append-nil, arith, length-append, take_all, drop-drop, take_at, drop_at}
use lib.ListN.{length-map}
use Rattle.std.specs.List.{flat_map}
use Rattle.std.proofs.lemmas.List.{take_more, flat_map_more}
use Rattle.std.proofs.lemmas.List.Concat.{flat_map-append, length-flat_map}
use Rattle.std.proofs.lemmas.List.Folds.{flat_map-map, length-flat_map-take}
use Rattle.std.proofs.lemmas.List.Sums.{sum_by-append, sum-map}
use Rattle.std.proofs.lemmas.Bool.{ltb-false}
use Rattle.kinds.specs.declared.kind.Kind.{Ghosts}
use Rattle.sheet.specs.declared.line_buffer.LineBuffer.{LineBuffer}
use Rattle.sheet.specs.LineTexts.{line_text}
use Rattle.sheet.specs.StoredKinds.{Storing, Storable}
use Rattle.book.specs.declared.book.Book.{Book}
use Rattle.book.specs.SheetLaws.{Readable}
use Rattle.book.specs.SheetReading.{lines_fault}
use Rattle.book.specs.SheetTexts.{position_line, sheet_lines, sheet_of}
use Rattle.book.specs.Tallies.{Tally, tally_of}
use Rattle.book.proofs.LawfulRuns.{valid}
use Rattle.book.proofs.SheetFaults.{or_both, when_not}
use Rattle.book.proofs.SheetRoundTrips.{reads_back}

-- the lines ahead of the positions
abbrev pub head_text : {C : Type 0} → Storing C → Tally C → List ℕ
head_text s t = flat_map (λ l. l) (take 7 (sheet_lines s t))

module _ {C : Type 0} (s : Storing C) (t : Tally C) where
  pub sheet_parts : head_text s t ++ flat_map (position_line s) t.positions ≡ sheet_of s t
  sheet_parts = ap (λ xs. head_text s t ++ xs) (sym (flat_map-map (λ l. l) (position_line s) t.positions)) ∙ sym (flat_map-append (λ l. l) (take 7 (sheet_lines s t)) (map (position_line s) t.positions))

  pub parts_fit : (needed room : ℕ) → needed ≡ length (sheet_of s t) → needed ≤ room → length (head_text s t) + length (flat_map (position_line s) t.positions) ≤ room
  parts_fit needed room e h = omega (arith, e, h, length-append (head_text s t) (flat_map (position_line s) t.positions), ap length sheet_parts)

  pub heads_made : (heads : List LineBuffer) → map line_text heads ≡ take 7 (sheet_lines s t) → flat_map line_text heads ≡ head_text s t
  heads_made heads made = sym (flat_map-map (λ l. l) line_text heads) ∙ ap (flat_map (λ l. l)) made

  pub heads_length : (heads : List LineBuffer) → map line_text heads ≡ take 7 (sheet_lines s t) → length heads ≡ 7
  heads_length heads made = sym (length-map heads line_text) ∙ ap length made

  pub length_made : (heads : List LineBuffer) → map line_text heads ≡ take 7 (sheet_lines s t) → sum (map (λ l. length (line_text l)) heads ++ map (λ p. length (position_line s p)) t.positions) ≡ length (sheet_of s t)
  length_made heads made =
      sum_by-append (λ n. n) (map (λ l. length (line_text l)) heads) (map (λ p. length (position_line s p)) t.positions)
      ∙ ap₂ (λ m n. m + n)
      (sum-map (λ l. length (line_text l)) heads ∙ sym (length-flat_map line_text heads) ∙ ap length (heads_made heads made))
      (sum-map (λ p. length (position_line s p)) t.positions ∙ sym (length-flat_map (position_line s) t.positions))
      ∙ sym (length-append (head_text s t) (flat_map (position_line s) t.positions)) ∙ ap length sheet_parts

-- The sheet of a book reads back as the book, and so is not too long.
module _ {C : Type 0} {g : Ghosts C} (s : Storing C) (laws : Storable g.means s) (b : Book C g) where
  pub readable : Readable g.means s (tally_of b)
  readable = reads_back g.means s laws (tally_of b) (valid b)

  pub sheet_short : length (sheet_of s (tally_of b)) ≤ 65536
  sheet_short =
      let bs = sheet_of s (tally_of b) in
      let n = length (vec_items b.positions) in
      ltb-false 65536 (length bs) (when_not _ _ (or_both _ (lines_fault g.means s n bs) (readable n (omega arith)).0).0)

-- Behind the bytes before stand the texts of the first i of xs, at the front of what was old; the next one goes to at.
pub record Put {X : Type 0} (text : X → List ℕ) (xs : List X) (before old : List ℕ) (i at : ℕ) (out : List ℕ) : Type 0 where
  pub end : at ≡ length (before ++ flat_map text (take i xs))
  pub bytes : out ≡ (before ++ flat_map text (take i xs)) ++ drop at old

module _ {X : Type 0} {text : X → List ℕ} {xs : List X} {before old : List ℕ} where
  pub put_room : {i at : ℕ} {out line : List ℕ} (x : X) → Put text xs before old i at out → i < length xs → line ≡ text (get_or xs i x) → at + length line ≤ length before + length (flat_map text xs)
  put_room {i} x p h is = omega (arith, p.end, length-append before (flat_map text (take i xs)), ap length is, length-flat_map-take text xs i x h)

  pub put_next : {i at end : ℕ} {out new line : List ℕ} (x : X) → Put text xs before old i at out → i < length xs → line ≡ text (get_or xs i x) → end ≡ at + length line → new ≡ take at out ++ (line ++ drop (at + length line) out) → Put text xs before old (i + 1) end new
  put_next {i} {at} {end} {out} {new} {line} x p h is e n =
      let done = before ++ flat_map text (take i xs) in
      let k = length line in
      let front : take at out ≡ done = ap (take at) p.bytes ∙ take_at done (drop at old) at (sym p.end) in
      let back : drop (at + k) out ≡ drop (at + k) old = sym (drop-drop k at out) ∙ ap (λ bs. drop k (drop at bs)) p.bytes ∙ ap (drop k) (drop_at done (drop at old) at (sym p.end)) ∙ drop-drop k at old in
      let next : done ++ line ≡ before ++ flat_map text (take (i + 1) xs) = ap (λ l. done ++ l) is ∙ flat_map_more text before (take i xs) (get_or xs i x) ∙ ap (λ ys. before ++ flat_map text ys) (sym (take_more xs i x h)) in
      record {
        end = e ∙ ap (λ m. m + k) p.end ∙ sym (length-append done line) ∙ ap length next;
        bytes = n ∙ ap₂ (λ bs cs. bs ++ (line ++ cs)) front back ∙ sym (append_assoc done line (drop (at + k) old)) ∙ ap₂ (λ bs m. bs ++ drop m old) next (sym e);
      }

  pub put_none : {at : ℕ} {out : List ℕ} → at ≡ length before → out ≡ before ++ drop at old → Put text xs before old 0 at out
  put_none {at} e n = let none = sym (append-nil before) in record { end = e ∙ ap length none; bytes = n ∙ ap (λ bs. bs ++ drop at old) none }

  pub put_all : {i at : ℕ} {out whole : List ℕ} → Put text xs before old i at out → length xs ≤ i → before ++ flat_map text xs ≡ whole → (at ≡ length whole) × (out ≡ whole ++ drop at old)
  put_all {i} {at} {out} {whole} p h e =
      let all : before ++ flat_map text (take i xs) ≡ whole = ap (λ ys. before ++ flat_map text ys) (take_all i xs h) ∙ e in
      (p.end ∙ ap length all, p.bytes ∙ ap (λ bs. bs ++ drop at old) all)
