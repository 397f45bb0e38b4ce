use Rattle.std.proofs.Common.{sym, ◌∙◌}
use Rattle.book.specs.SheetReading.{positions_told}
use Rattle.book.proofs.ReadingLines.{goes_on, as_read, reads_well}
use Rattle.book.proofs.SheetHeads.{start, head_read}
use Rattle.book.proofs.book.Book.fill.Goals as goal

pub unwrap-market-requires : goal.unwrap-market-requires
unwrap-market-requires g c =
    reads_well _ _ c.read_market.ensures (start g.K.Kind.means g.K.Stored.stored c.args.self.now.places c.args.reader.now c.requires.start) c.requires.checked

pub unwrap-count-requires : goal.unwrap-count-requires
unwrap-count-requires g c =
    let g6 = goes_on (as_read c.unwrap-market.ensures c.read_market.ensures) (start g.K.Kind.means g.K.Stored.stored c.args.self.now.places c.args.reader.now c.requires.start) in
    reads_well _ _ c.read_count.ensures g6 c.requires.checked

pub fill_positions-requires : goal.fill_positions-requires
fill_positions-requires g c =
    let count = as_read c.unwrap-count.ensures c.read_count.ensures in
    let head = head_read g.K.Kind.means g.K.Stored.stored c.args.self.now.places _ c.requires.start (as_read c.unwrap-market.ensures c.read_market.ensures) count in
    record { room = count.told.1.tells.1; checked = sym head.left ∙ c.requires.checked }

pub returns : goal.returns
returns g c =
    let count = as_read c.unwrap-count.ensures c.read_count.ensures in
    let head = head_read g.K.Kind.means g.K.Stored.stored c.args.self.now.places _ c.requires.start (as_read c.unwrap-market.ensures c.read_market.ensures) count in
    c.fill_positions.ensures ∙ λ i. record { places = c.args.self.now.places; market = sym head.market i; positions = positions_told g.K.Stored.stored (sym head.count_is i) (head.at i) }
