use Rattle.std.proofs.Common.{◌≡◌, take}
use Rattle.book.specs.Tallies.{tally_of}
use Rattle.circular_margins.specs.Replies.{portfolio}
use Rattle.circular_margins.proofs.margins.opened.Given as goal

abbrev pub invariant-loop-holding : goal.invariant-loop-holding
invariant-loop-holding l = tally_of l.book ≡ portfolio l.initial.book.places (take l.holding-index l.holdings)
