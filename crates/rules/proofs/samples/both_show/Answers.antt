use Rattle.rules.proofs.Both.{both}
use Rattle.rules.proofs.samples.both_show.Goals as goal

pub returns : goal.returns
returns c = both
