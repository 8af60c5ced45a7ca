use Rattle.std.proofs.Common.{sym}
use Rattle.hexpairs.proofs.Cuts.{ended, whole}
use Rattle.hexpairs.proofs.lines.first_line.Goals as goal

pub returns-in-Some : goal.returns-in-Some
returns-in-Some c = ended c.args.text.now c.in-Some.at (sym c.in-Some.ensures)

pub returns-in-None : goal.returns-in-None
returns-in-None c = whole c.args.text.now (sym c.in-None.ensures)
