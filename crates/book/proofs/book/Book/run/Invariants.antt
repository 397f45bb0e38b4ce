use Rattle.std.proofs.Common.{◌≡◌, ◌≤◌, length, take, drop}
use Rattle.book.specs.Runs.{Run}
use Rattle.book.specs.Tallies.{tally_of}
use Rattle.book.proofs.book.Book.run.Given as goal

abbrev pub invariant-loop-i : goal.invariant-loop-i
invariant-loop-i g l =
    (l.i ≤ length l.calls)
    × Run g.K.Kind.means (tally_of l.initial.self) (take l.i l.calls) (take l.i l.replies) (tally_of l.self)
    × (drop (length l.calls) l.replies ≡ drop (length l.calls) l.initial.replies)
