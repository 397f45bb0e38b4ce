use Rattle.std.proofs.Common.{◌≡◌, ℕ, List, Option, Result, sym, subst, ◌∙◌, ap₂, arith}
use Rattle.sheet.specs.declared.fault.Fault.{Fault}
use Rattle.sheet.specs.declared.reader.Reader.{Reader}
use Rattle.sheet.specs.declared.market_number.MarketNumber.TheVariants as market_number
use Rattle.book.specs.declared.market.Market.{Market}
use Rattle.book.specs.Markets.{IsMarket}
use Rattle.book.specs.SheetReading.{unread, after_lines, or_fault, number_fault, product_fault, market_fault, market_told, ReadOn}
use Rattle.book.proofs.SheetFaults.{market_right, is_market}
use Rattle.book.proofs.ReadingLines.{found_fault, Gone, starts, goes_on, tells_there, reading_stops}
use Rattle.book.proofs.read_sheet.read_market.Goals as goal
use Rattle.book.proofs.read_sheet.read_market.Goals.{In_ok-rate, After-read_number-3}

start : (r0 : Reader) → r0.lines ≡ 0 → Gone 0 r0 0 r0 (market_fault (unread r0)) (market_fault (unread r0))
start r0 h = starts 0 r0 (market_fault (unread r0)) h

-- The reference price was read up to the ceiling that the sheet tells.
limit_told : {X : Type 0} {u v : ℕ} {Tells : List ℕ → X → Type 0} {old new : Reader} {r : Result X Fault} → u ≡ v → ReadOn 1 (λ line. number_fault line market_number.Reference 1 v) Tells old new r → ReadOn 1 (λ line. number_fault line market_number.Reference 1 u) Tells old new r
limit_told {Tells = Tells} {old = old} {new = new} {r = r} e t = subst (λ u. ReadOn 1 (λ line. number_fault line market_number.Reference 1 u) Tells old new r) (sym e) t

pub returns-in_err-ceiling : goal.returns-in_err-ceiling
returns-in_err-ceiling c =
    let g1 = goes_on c.in_ok-read_head.ensures (start c.args.reader.now c.requires) in
    reading_stops _ c.in_err-ceiling.ensures g1 c.from_residual-in_err-ceiling.ensures.1

pub returns-in_err-reference : goal.returns-in_err-reference
returns-in_err-reference c =
    let g1 = goes_on c.in_ok-read_head.ensures (start c.args.reader.now c.requires) in
    let told = tells_there c.in_ok-ceiling.ensures g1 in
    reading_stops _ (limit_told told c.in_err-reference.ensures) (goes_on c.in_ok-ceiling.ensures g1) c.from_residual-in_err-reference.ensures.1

-- The tests after the reference price.
abbrev left : List ℕ → Option Fault
left bs =
    or_fault (number_fault 4 market_number.Factor 0 10000 (after_lines 3 bs))
    (or_fault (number_fault 5 market_number.Size 1 1000 (after_lines 4 bs))
    (or_fault (number_fault 6 market_number.Rate 1 99999 (after_lines 5 bs))
    (product_fault 6 (market_told bs))))

reference_read : (c : After-read_number-3) → Gone 0 c.args.reader.now 3 c.read_number-2.new.reader (market_fault (unread c.args.reader.now)) (left (unread c.args.reader.now))
reference_read c =
    let g1 = goes_on c.in_ok-read_head.ensures (start c.args.reader.now c.requires) in
    let told = tells_there c.in_ok-ceiling.ensures g1 in
    goes_on (limit_told told c.in_ok-reference.ensures) (goes_on c.in_ok-ceiling.ensures g1)

pub returns-in_err-factor : goal.returns-in_err-factor
returns-in_err-factor c = reading_stops _ c.in_err-factor.ensures (reference_read (goal.at.returns-in_err-factor c).After-read_number-3) c.from_residual-in_err-factor.ensures.1

pub returns-in_err-size : goal.returns-in_err-size
returns-in_err-size c =
    let g4 = goes_on c.in_ok-factor.ensures (reference_read (goal.at.returns-in_err-size c).After-read_number-3) in
    reading_stops _ c.in_err-size.ensures g4 c.from_residual-in_err-size.ensures.1

pub returns-in_err-rate : goal.returns-in_err-rate
returns-in_err-rate c =
    let g4 = goes_on c.in_ok-factor.ensures (reference_read (goal.at.returns-in_err-rate c).After-read_number-3) in
    reading_stops _ c.in_err-rate.ensures (goes_on c.in_ok-size.ensures g4) c.from_residual-in_err-rate.ensures.1

-- The five numbers are those that the sheet tells, and their product is left.
abbrev numbers : In_ok-rate → Market
numbers c = record { ceiling = c.in_ok-ceiling.ceiling; reference = c.in_ok-reference.reference; factor = c.in_ok-factor.factor; size = c.in_ok-size.size; rate = c.in_ok-rate.rate }

record RateRead (c : In_ok-rate) : Type 0 where
  pub told : market_told (unread c.args.reader.now) ≡ numbers c
  pub gone : Gone 0 c.args.reader.now 6 c.read_number-5.new.reader (market_fault (unread c.args.reader.now)) (product_fault c.line-line.result (numbers c))

rate_read : (c : In_ok-rate) → RateRead c
rate_read c =
    let g1 = goes_on c.in_ok-read_head.ensures (start c.args.reader.now c.requires) in
    let n1 = tells_there c.in_ok-ceiling.ensures g1 in
    let g2 = goes_on c.in_ok-ceiling.ensures g1 in
    let n2 = tells_there c.in_ok-reference.ensures g2 in
    let g3 = goes_on (limit_told n1 c.in_ok-reference.ensures) g2 in
    let n3 = tells_there c.in_ok-factor.ensures g3 in
    let g4 = goes_on c.in_ok-factor.ensures g3 in
    let n4 = tells_there c.in_ok-size.ensures g4 in
    let g5 = goes_on c.in_ok-size.ensures g4 in
    let n5 = tells_there c.in_ok-rate.ensures g5 in
    let g6 = goes_on c.in_ok-rate.ensures g5 in
    let told : market_told (unread c.args.reader.now) ≡ numbers c = λ i. record { ceiling = n1 i; reference = n2 i; factor = n3 i; size = n4 i; rate = n5 i } in
    let line : 6 ≡ c.line-line.result = omega (arith, g5.lines, c.line-line.ensures) in
    record { told = told; gone = record { same = g6.same; at = g6.at; lines = g6.lines; is = g6.is ∙ ap₂ product_fault line told } }

pub returns-in_err-check_product : goal.returns-in_err-check_product
returns-in_err-check_product c =
    let r = rate_read (goal.at.returns-in_err-check_product c).In_ok-rate in
    record { same = r.gone.same; told = found_fault _ _ _ _ (r.gone.is ∙ c.in_err-check_product.ensures) c.from_residual-in_err-check_product.ensures.1 }

pub invariant_of-result : goal.invariant_of-result
invariant_of-result c =
    let r = rate_read (goal.at.invariant_of-result c).In_ok-rate in
    record { right = subst IsMarket r.told (is_market (unread c.args.reader.now) (market_right (unread c.args.reader.now) (r.gone.is ∙ c.in_ok-check_product.ensures.0))) }

pub returns : goal.returns
returns c =
    let r = rate_read (goal.at.returns c).In_ok-rate in
    record {
      same = r.gone.same;
      told = (r.gone.is ∙ c.in_ok-check_product.ensures.0, record { tells = r.told; at = r.gone.at; lines = omega (arith, r.gone.lines, c.requires) });
    }
