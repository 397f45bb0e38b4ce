-- How a book would end, by the causes that are tried last.
use Rattle.std.proofs.Common.{◌≡◌, ◌<◌, ◌≤◌, true, false, cond, not, ltb, List, length, ℤ, nat_abs, Some, None, Result, sym, ap, ◌∙◌, subst}
use Rattle.std.proofs.lemmas.Bool.{lt-ltb, le-ltb}
use Rattle.book.specs.declared.position.Position.{Position}
use Rattle.book.specs.declared.refusal.Refusal.TheVariants.{Quantity, DoesNotFit, Contracts, AllPlacesTaken}
use Rattle.book.specs.declared.refusal.Refusal.{Refusal}
use Rattle.book.specs.Losses.{gross}
use Rattle.book.specs.Tallies.{Tally, holding, ends_refusal, trade_refusal, Told}
use Rattle.book.specs.Markets.{outside, variation_of}
use Rattle.book.specs.Trades.{traded}
use Rattle.kinds.specs.Kinds.{Meaning}

module _ {C : Type 0} (t : Tally C) (after : List (Position C)) where
  pub too_many_contracts : 10000 < gross after → ends_refusal t after ≡ Some Contracts
  too_many_contracts h = ap (λ b. cond b (Some Contracts) (cond (ltb t.places (length after)) (Some AllPlacesTaken) None)) (lt-ltb 10000 (gross after) h)

  pub no_place : gross after ≤ 10000 → t.places < length after → ends_refusal t after ≡ Some AllPlacesTaken
  no_place h k =
      ap (λ b. cond b (Some Contracts) (cond (ltb t.places (length after)) (Some AllPlacesTaken) None)) (le-ltb 10000 (gross after) h)
      ∙ ap (λ b. cond b (Some AllPlacesTaken) None) (lt-ltb t.places (length after) k)

-- A trade whose quantity is right and whose contract fits ends as its positions do.
pub ended : {C : Type 0} (K : Meaning C) (t : Tally C) (c : C) (q : ℤ) (after : List (Position C)) (new : Tally C) (r : Result (Unit {0}) Refusal) → outside (nat_abs q) 1 10000 ≡ false → K.fits c (variation_of t.market) t.market.ceiling ≡ true → traded K c q t.positions ≡ after → Told (ends_refusal t after) t (holding t after) new r → Told (trade_refusal K t c q) t (holding t (traded K c q t.positions)) new r
ended K t c q after new r small fits e h =
    let all = traded K c q t.positions in
    let refusal : trade_refusal K t c q ≡ ends_refusal t all =
    ap (λ b. cond b (Some Quantity) (cond (not (K.fits c (variation_of t.market) t.market.ceiling)) (Some DoesNotFit) (ends_refusal t all))) small
    ∙ ap (λ b. cond (not b) (Some DoesNotFit) (ends_refusal t all)) fits in
    subst (λ o. Told o t (holding t all) new r) (sym refusal) (subst (λ qs. Told (ends_refusal t qs) t (holding t qs) new r) (sym e) h)
