use Rattle.std.proofs.Common.{rules}
use Rattle.std.specs.Fmt.{digits}
use Rattle.records.proofs.figures.examples_stand.Goals as goal

-- the digits of a number are computed
pub returns : goal.returns
unfolding digits
returns c = search rules
