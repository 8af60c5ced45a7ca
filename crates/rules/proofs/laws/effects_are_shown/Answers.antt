use Rattle.rules.proofs.Outcomes.{shown, counted_effects}
use Rattle.rules.proofs.laws.effects_are_shown.Goals as goal

pub returns : goal.returns
returns c = record { shown = shown; counted = counted_effects }
