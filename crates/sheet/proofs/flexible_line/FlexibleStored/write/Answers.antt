use Rattle.std.proofs.Common.{arith}
use Rattle.sheet.proofs.Lengths.{room_for_number, short_with_number}
use Rattle.sheet.proofs.flexible_line.FlexibleStored.write.Goals as goal

pub push_number-requires : goal.push_number-requires
push_number-requires c = room_for_number _ _ _ c.side_and_strike-line.ensures.short c.push.ensures (omega arith)

pub returns-in-Some-clause-short : goal.returns-in-Some-clause-short
returns-in-Some-clause-short c = short_with_number _ _ _ _ c.side_and_strike-line.ensures.short c.push.ensures c.push_number.ensures (omega arith)
