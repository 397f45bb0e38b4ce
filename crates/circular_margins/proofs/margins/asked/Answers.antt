use Rattle.circular_margins.proofs.margins.asked.Goals as goal

pub returns : goal.returns
returns c = rw (← c.in_ok-book.ensures) (record { minimum = c.minimum-minimum.ensures; required = c.in_ok-required.ensures.told.1 c.required.ensures.kept })
