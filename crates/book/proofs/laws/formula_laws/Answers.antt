use Rattle.kinds.specs.FlexibleOptions.{flexible}
use Rattle.kinds.specs.ListedOptions.{listed}
use Rattle.kinds.specs.FlexibleRules.{flexible_lawful}
use Rattle.kinds.specs.ListedRules.{listed_lawful}
use Rattle.book.proofs.CircularMargins.{listed_from_zero, flexible_from_zero, circular_covers, circular_covers_both, circular_replies}
use Rattle.book.proofs.LimiterLosses.{limiter_losses}
use Rattle.book.proofs.PriceZero.{zero_never_raises}
use Rattle.book.proofs.laws.formula_laws.Goals as goal

pub returns : goal.returns
returns c = record {
  minimum = circular_covers listed_lawful;
  required = circular_covers_both listed_lawful;
  replies = circular_replies listed_lawful;
  limiter = limiter_losses;
  listed = zero_never_raises listed listed_lawful listed_from_zero;
  flexible = zero_never_raises flexible flexible_lawful flexible_from_zero;
}
