-- The book that is measured, trade by trade: each contract is a new one.
use Rattle.std.proofs.Common.{◌≡◌, ℕ, zero, suc, ◌+◌, ◌-◌, ◌*◌, ◌%◌, ◌<◌, ◌≤◌, Bool, true, false, cond, eqb, ltb, [], ◌∷◌, ◌++◌, pos, negsuc, refl, ap, ◌∙◌, arith}
use Rattle.std.specs.List.{AllByRecursion}
use Rattle.std.proofs.ByRecursion.{All-push}
use Rattle.std.proofs.lemmas.Bool.{ne_eqb}
use Rattle.kinds.specs.declared.listed.Listed.{Listed}
use Rattle.kinds.specs.declared.side.Side.TheVariants.{Call, Put}
use Rattle.kinds.specs.ListedOptions.{listed}
use Rattle.book.specs.Trades.{put, traded}
use Rattle.book.proofs.TradedLists.{traded_new}
use Rattle.speed.specs.Examples.{option_at, quantity_at, example}

-- two options of different positions, each a call or a put
apart : (a b : Bool) (i j : ℕ) → j < i → i < 128 → listed.same (cond a record { side = Call; strike = 260000 + 5000 * j } record { side = Put; strike = 250000 - 1900 * j }) (cond b record { side = Call; strike = 260000 + 5000 * i } record { side = Put; strike = 250000 - 1900 * i }) ≡ false
apart true true i j l h = ne_eqb (260000 + 5000 * j) (260000 + 5000 * i) (λ e. omega arith)
apart true false i j l h = refl
apart false true i j l h = refl
apart false false i j l h = ne_eqb (250000 - 1900 * j) (250000 - 1900 * i) (λ e. omega arith)

-- the option of the position i is none of the first n
unheld : (i n : ℕ) → n ≤ i → i < 128 → AllByRecursion (λ p. listed.same p.contract (option_at i) ≡ false) (example n)
unheld i zero l h = tt
unheld i (suc n) l h =
    All-push (λ p. listed.same p.contract (option_at i) ≡ false) (example n) _ (unheld i n (omega arith) h) (apart (eqb (n % 2) 0) (eqb (i % 2) 0) i n (omega arith) h)

placed : (b : Bool) (o : Listed) (n : ℕ) → put o (cond b (negsuc n) (pos (suc n))) [] ≡ record { contract = o; net = cond b (negsuc n) (pos (suc n)) } ∷ []
placed true o n = refl
placed false o n = refl

pub next : (i : ℕ) → i < 128 → traded listed (option_at i) (quantity_at i) (example i) ≡ example (i + 1)
next i h =
    let e : suc i ≡ i + 1 = omega arith in
    traded_new listed (option_at i) (quantity_at i) (example i) (unheld i i (omega arith) h) ∙ ap (λ ps. example i ++ ps) (placed (ltb (i % 4) 2) (option_at i) (i % 50)) ∙ ap example e
