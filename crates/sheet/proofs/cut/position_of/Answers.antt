use Rattle.std.proofs.Common.{rules}
use Rattle.sheet.proofs.Marks.{cut_there}
use Rattle.sheet.proofs.cut.position_of.Goals as goal

pub returns : goal.returns
returns c = cut_there c.args.mark c.args.bytes.now c.position.result (search rules)
