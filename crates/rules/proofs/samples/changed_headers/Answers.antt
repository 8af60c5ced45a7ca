use Rattle.rules.proofs.Changed.{changed_headers}
use Rattle.rules.proofs.samples.changed_headers.Goals as goal

pub returns : goal.returns
returns c = changed_headers
