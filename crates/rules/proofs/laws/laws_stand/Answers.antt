use Rattle.rules.proofs.Stand.{laws}
use Rattle.rules.proofs.laws.laws_stand.Goals as goal

pub returns : goal.returns
returns c = laws
