use Rattle.rules.proofs.Computed.{sample}
use Rattle.rules.proofs.samples.sample_shows.Goals as goal

pub returns : goal.returns
returns c = sample
