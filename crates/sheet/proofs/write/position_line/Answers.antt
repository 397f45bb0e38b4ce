use Rattle.std.proofs.Common.{rules}
use Rattle.sheet.proofs.Lengths.{room_for_quantity, room_for_end}
use Rattle.sheet.proofs.write.position_line.Goals as goal

pub push_quantity-requires : goal.push_quantity-requires
push_quantity-requires g c = room_for_quantity _ _ _ c.write-line.ensures.short c.push.ensures (search rules)

pub push-requires-2 : goal.push-requires-2
push-requires-2 g c = room_for_end _ _ _ _ c.write-line.ensures.short c.push.ensures c.push_quantity.ensures (search rules)
