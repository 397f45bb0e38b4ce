use Rattle.std.proofs.Common.{[], ◌∷◌, ◌++◌, length, sym, refl, ap, ◌∙◌, subst, arith}
use Rattle.std.proofs.lemmas.List.{length-map, map-append}
use Rattle.book.specs.Losses.{gross}
use Rattle.book.specs.SheetReading.{unread, positions_told, contracts_of, Checked}
use Rattle.book.proofs.ReadingLines.{found_fault, check_stops}
use Rattle.book.proofs.PositionFaults.{told_most, same_test, none_passed, all_passed, next_line, more, position_stops, position_passes, end_checked}
use Rattle.book.proofs.ValueBounds.{gross_push}
use Rattle.book.proofs.check_sheet.check_positions.Goals as goal

pub loop-init : goal.loop-init
loop-init g c = record {
  passed = none_passed g.K.Kind.means g.K.Stored.stored c.args.market.now.numbers c.args.count c.args.reader.now;
  contracts = refl;
  few = omega arith;
  seen = c.clear.ensures.items;
  room = refl;
}

pub returns-in_err-position-clause-checked : goal.returns-in_err-position-clause-checked
returns-in_err-position-clause-checked g c =
    let line = next_line g.K.Kind.means g.K.Stored.stored c.args.market.now.numbers c.args.count _ _ _ c.loop-test.true c.loop.invariant.passed in
    check_stops _ c.in_err-position.ensures line c.from_residual.ensures.1

pub returns-in_err-contracts-clause-checked : goal.returns-in_err-contracts-clause-checked
returns-in_err-contracts-clause-checked g c =
    let K = g.K.Kind.means in
    let s = g.K.Stored.stored in
    let m = c.args.market.now.numbers in
    let passed = c.loop.invariant.passed in
    let above = positions_told s c.loop.counter (unread c.args.reader.now) in
    let p = c.in_ok-position.position in
    let t = c.in_ok-position.ensures in
    let test = same_test K s m above p c.line-line.ensures c.loop.invariant.contracts (c.as_slice.ensures.value ∙ c.loop.invariant.seen) in
    let stop = position_stops K s m _ _ _ _ c.loop-test.true passed _ p t _ (sym test ∙ c.in_err-contracts.ensures) in
    record { same = t.same ∙ passed.same; told = found_fault _ _ _ _ stop c.from_residual-in_err-contracts.ensures.1 }

pub push_reserved-requires : goal.push_reserved-requires
push_reserved-requires g c =
    let above = positions_told g.K.Stored.stored c.loop.counter (unread c.args.reader.now) in
    omega (arith, c.loop.seen.ok.0, ap length c.loop.invariant.seen, length-map above (λ p. p.contract), told_most g.K.Stored.stored c.loop.counter (unread c.args.reader.now), c.loop-test.true, c.requires.room, c.loop.invariant.room, c.clear.ensures.capacity)

pub loop-preserved : goal.loop-preserved
loop-preserved g c =
    let K = g.K.Kind.means in
    let s = g.K.Stored.stored in
    let m = c.args.market.now.numbers in
    let passed = c.loop.invariant.passed in
    let above = positions_told s c.loop.counter (unread c.args.reader.now) in
    let p = c.in_ok-position.position in
    let t = c.in_ok-position.ensures in
    let test = same_test K s m above p c.line-line.ensures c.loop.invariant.contracts (c.as_slice.ensures.value ∙ c.loop.invariant.seen) in
    let told = c.in_ok-contracts.ensures in
    let ps = more K s m c.args.count _ _ _ c.loop-test.true passed _ p t in
    record {
      passed = position_passes K s m c.args.count _ _ _ c.loop-test.true passed _ p t (sym test ∙ told.0);
      contracts = omega (arith, told.1.0, c.loop.invariant.contracts, gross_push above p, ap gross ps);
      few = told.1.1;
      seen = c.push_reserved.ensures.items ∙ ap (λ cs. cs ++ p.contract ∷ []) c.loop.invariant.seen ∙ sym (map-append (λ q. q.contract) above (p ∷ [])) ∙ ap contracts_of (sym ps);
      room = c.push_reserved.ensures.capacity ∙ c.loop.invariant.room;
    }

pub returns-clause-checked : goal.returns-clause-checked
returns-clause-checked g c =
    let passed = c.loop.invariant.passed in
    let all = all_passed g.K.Kind.means g.K.Stored.stored c.args.market.now.numbers c.args.count _ _ _ passed c.loop-test.false in
    record { same = passed.same; told = subst (λ f. Checked f c.end.result) (sym all) (end_checked c.loop.reader c.end.result c.end.ensures) }
