use Rattle.std.proofs.Common.{sym}
use Rattle.header.specs.Finds.{name_of_label}
use Rattle.receiver.proofs.Updated.{named_held}
use Rattle.receiver.specs.Views.{state_of}
use Rattle.receiver.proofs.parts.Parts.update_heard.Goals as goal

pub returns-in-Some-clause-fits : goal.returns-in-Some-clause-fits
returns-in-Some-clause-fits c =
    λ t.
    named_held (state_of c.args.self.now) (name_of_label c.args.header.now.name) c.in-Some.k.index (sym c.in-Some.ensures)
