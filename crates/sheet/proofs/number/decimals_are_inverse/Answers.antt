use Rattle.std.proofs.Common.{arith}
use Rattle.sheet.specs.Numerals.{numbers_inverse, quantities_inverse}
use Rattle.sheet.proofs.number.decimals_are_inverse.Goals as goal

pub returns : goal.returns
returns c = record { short = numbers_inverse _ (omega arith) (omega arith); long = numbers_inverse _ (omega arith) (omega arith); quantities = quantities_inverse }
