use Rattle.book.proofs.ExampleMargins.{examples_hold}
use Rattle.book.proofs.laws.examples_hold.Goals as goal

pub returns : goal.returns
returns c = examples_hold
