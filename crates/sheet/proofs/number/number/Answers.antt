use Rattle.std.proofs.Common.{◌≤◌, arith}
use Rattle.std.proofs.Math.Nat.{pow-le-pow_right}
use Rattle.sheet.proofs.number.number.Goals as goal

pub returns-clause-small : goal.returns-clause-small
returns-clause-small c = let few : c.loop-b.b-index ≤ c.args.most = omega arith in omega (arith, pow-le-pow_right {n = 10} (omega arith) few)
