-- A search that keeps the best price so far.
use Rattle.std.proofs.Common.{◌≡◌, ℕ, ◌+◌, ◌<◌, List, [], ◌∷◌, ◌++◌, length, get_or, take, ℤ, pos, ◌*ℤ◌, ◌<ℤ◌, sym, ap, ◌∙◌, subst, ⊎_elim, arith}
use borrow.Author.Differences.{ints}
use Rattle.std.specs.List.{AllByRecursion}
use Rattle.std.proofs.ByRecursion.{All-weaker, All-append}
use Rattle.std.proofs.lemmas.List.{take_more, append-nil, append_assoc}
use Rattle.book.specs.declared.position.Position.{Position}
use Rattle.kinds.specs.Kinds.{Meaning}
use Rattle.book.specs.Losses.{told, corners, lost}
use Rattle.kinds.specs.declared.corners.Corners.{Corners}
use Rattle.kinds.specs.CornerPrices.{prices}
use Rattle.std.proofs.lemmas.Bool.{cases_lt}
use Rattle.book.specs.Prices.{Ahead, Leads, Worst}
use Rattle.book.proofs.Integers.{times_le, times_lt}

module _ (f : ℕ → ℤ) where
  pub ahead_chain : (p q x : ℕ) → Ahead f q p → Ahead f p x → Ahead f q x
  ahead_chain p q x a b = record {
    no_less = omega (arith, ints);
    first = λ l. ⊎_elim (λ k. let h = b.first k in omega (arith, ints)) (λ k. let h : f p <ℤ f q = a.first (omega arith) in omega (arith, ints)) (cases_lt x p);
  }

  -- all that p stood ahead of
  pub all_ahead : (p q : ℕ) (xs : List ℕ) → Ahead f q p → AllByRecursion (Ahead f p) xs → AllByRecursion (Ahead f q) xs
  all_ahead p q xs a = All-weaker (Ahead f p) (Ahead f q) (λ x b. ahead_chain p q x a b) xs

-- the scale of the loss does not matter
pub worst_scaled : (f : ℕ → ℤ) (s p : ℕ) → 0 < s → Worst f p → Worst (λ y. f y *ℤ pos s) p
worst_scaled f s p z w = record {
  greatest = λ x. times_le (f x) (f p) s (w.greatest x);
  lowest = λ x l. times_lt (f x) (f p) s z (w.lowest x l);
}

module _ {C : Type 0} (K : Meaning C) (v : ℕ) where
  corners_push : (ps : List (Position C)) (p : Position C) → corners K v (ps ++ (p ∷ [])) ≡ corners K v ps ++ told K v p.contract p.net
  corners_push [] p = append-nil (told K v p.contract p.net)
  corners_push (q ∷ ps) p = ap (λ cs. told K v q.contract q.net ++ cs) (corners_push ps p) ∙ sym (append_assoc (told K v q.contract q.net) (corners K v ps) (told K v p.contract p.net))

  -- one position more
  pub corners_more : (ps : List (Position C)) (i : ℕ) (p : Position C) → i < length ps → p ≡ get_or ps i p → corners K v (take (i + 1) ps) ≡ corners K v (take i ps) ++ told K v p.contract p.net
  corners_more ps i p l e =
      ap (corners K v) (take_more ps i p l ∙ ap (λ q. take i ps ++ (q ∷ [])) (sym e)) ∙ corners_push (take i ps) p

-- a search that goes on from p to q by the prices xs
pub leads_on : (f : ℕ → ℤ) (p q : ℕ) (cs xs : List ℕ) → Leads f p cs → Leads f q (p ∷ xs) → Leads f q (cs ++ xs)
leads_on f p q cs xs a b =
    record { each = All-append (Ahead f q) cs xs (all_ahead f p q cs b.each.0 a.each) b.each.1 }

-- one turn of the search: from p to q by the corners of a position
pub search_more : {C : Type 0} (K : Meaning C) (v : ℕ) (ps : List (Position C)) (i : ℕ) (o : Position C) (c : Corners) (p q : ℕ) → i < length ps → o ≡ get_or ps i o → prices c ≡ told K v o.contract o.net → Leads (lost K v ps) p (0 ∷ corners K v (take i ps)) → Leads (lost K v ps) q (p ∷ prices c) → Leads (lost K v ps) q (0 ∷ corners K v (take (i + 1) ps))
search_more K v ps i o c p q l e t a b =
    let more : corners K v (take i ps) ++ prices c ≡ corners K v (take (i + 1) ps) = ap (λ cs. corners K v (take i ps) ++ cs) t ∙ sym (corners_more K v ps i o l e) in
    subst (λ cs. Leads (lost K v ps) q (0 ∷ cs)) more (leads_on (lost K v ps) p q (0 ∷ corners K v (take i ps)) (prices c) a b)
