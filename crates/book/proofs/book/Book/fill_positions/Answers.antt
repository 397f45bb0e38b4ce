use Rattle.std.proofs.Common.{◌≡◌, ℕ, List, ◌∷◌, ◌++◌, [], length, ℤ, nat_abs, sym, ap, ◌∙◌, subst, arith}
use Rattle.book.specs.declared.market.Market.{Market}
use Rattle.book.specs.declared.position.Position.{Position}
use Rattle.book.specs.Losses.{gross}
use Rattle.book.specs.SheetReading.{unread, positions_told}
use Rattle.book.specs.Tallies.{Tally, Kept, holding}
use Rattle.book.proofs.FinePositions.{fine_from, fine_push}
use Rattle.book.proofs.ReadingLines.{as_read, reads_well}
use Rattle.book.proofs.PositionFaults.{told_most, none_passed, next_line, more, position_passes, position_good}
use Rattle.book.proofs.ValueBounds.{same_net}
use Rattle.book.proofs.book.Book.fill_positions.Goals as goal

-- A tally with a position more.
one_more : {C : Type 0} {t : Tally C} {places : ℕ} {m : Market} {ps : List (Position C)} (p : Position C) {z : ℤ} → t ≡ record { places = places; market = m; positions = ps } → z ≡ p.net → holding t (t.positions ++ record { contract = p.contract; net = z } ∷ []) ≡ record { places = places; market = m; positions = ps ++ p ∷ [] }
one_more p e n = λ i. holding (e i) ((e i).positions ++ record { contract = p.contract; net = n i } ∷ [])

pub loop-init : goal.loop-init
loop-init g c = record {
  passed = none_passed g.K.Kind.means g.K.Stored.stored c.args.market.numbers c.args.count c.args.reader.now;
  tally = ap (λ ps. record { places = c.args.self.now.places; market = c.args.market.numbers; positions = ps }) c.clear.ensures.items;
}

pub unwrap-position-requires : goal.unwrap-position-requires
unwrap-position-requires g c =
    let line = next_line g.K.Kind.means g.K.Stored.stored c.args.market.numbers c.args.count _ _ _ c.loop-test.true c.loop.invariant.passed in
    reads_well _ _ c.read_position.ensures line c.requires.checked

pub append-requires : goal.append-requires
append-requires g c =
    let K = g.K.Kind.means in
    let s = g.K.Stored.stored in
    let m = c.args.market.numbers in
    let p = c.unwrap-position.result in
    let tally = c.loop.invariant.tally in
    let above = positions_told s c.loop.counter (unread c.args.reader.now) in
    let t = as_read c.unwrap-position.ensures c.read_position.ensures in
    let fine = fine_from K s m _ above p (position_good K s m c.args.count _ _ _ c.loop-test.true c.loop.invariant.passed _ p t c.requires.checked) in
    let net = same_net p.net fine.most in
    record {
      room = omega (arith, c.loop.self.positions.ok.0, ap (λ x. length x.positions) tally, told_most s c.loop.counter (unread c.args.reader.now), c.loop-test.true, c.requires.room, ap (λ x. x.places) tally);
      some = omega (arith, ap nat_abs net, fine.some);
      few = omega (arith, ap nat_abs net, ap (λ x. gross x.positions) tally, fine.few);
      kept =
          let old = subst (Kept K) tally (record { fitting = c.loop.self.fitting; distinct = c.loop.self.distinct }) in
          subst (Kept K) (sym (one_more p tally net)) (fine_push K s m c.args.self.now.places above p fine old);
    }

pub loop-preserved : goal.loop-preserved
loop-preserved g c =
    let K = g.K.Kind.means in
    let s = g.K.Stored.stored in
    let m = c.args.market.numbers in
    let p = c.unwrap-position.result in
    let t = as_read c.unwrap-position.ensures c.read_position.ensures in
    let good = position_good K s m c.args.count _ _ _ c.loop-test.true c.loop.invariant.passed _ p t c.requires.checked in
    let net = same_net p.net (fine_from K s m _ _ p good).most in
    let ps = more K s m c.args.count _ _ _ c.loop-test.true c.loop.invariant.passed _ p t in
    record {
      passed = position_passes K s m c.args.count _ _ _ c.loop-test.true c.loop.invariant.passed _ p t good;
      tally = c.append.ensures ∙ one_more p c.loop.invariant.tally net ∙ ap (λ qs. record { places = c.args.self.now.places; market = m; positions = qs }) (sym ps);
    }

pub returns : goal.returns
returns g c =
    let e : c.loop.counter ≡ c.args.count = omega (arith, c.loop-test.false, c.loop.auto.counter-end) in
    c.loop.invariant.tally ∙ ap (λ n. record { places = c.args.self.now.places; market = c.args.market.numbers; positions = positions_told g.K.Stored.stored n (unread c.args.reader.now) }) e
