use Rattle.std.proofs.Common.{◌≡◌, ◌^◌, ◌<◌, drop}
use Rattle.std.specs.Str.{all_ascii_digits}
use Rattle.sheet.specs.Decimals.{read_on}
use Rattle.sheet.proofs.number.number.Given as goal

abbrev pub invariant-loop-b : goal.invariant-loop-b
invariant-loop-b l =
    (read_on l.n (drop l.b-index l.bytes) ≡ read_on 0 l.bytes) × (all_ascii_digits (drop l.b-index l.bytes) ≡ all_ascii_digits l.bytes) × (l.n < 10 ^ l.b-index)
