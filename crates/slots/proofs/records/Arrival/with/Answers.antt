use Rattle.std.proofs.Common.{rules, ap, ◌∙◌}
use Rattle.slots.specs.Slides as slides
use Rattle.slots.proofs.records.Arrival.with.Goals as goal

pub returns : goal.returns
returns c = λ n. ap slides.held (c.from.ensures n) ∙ search rules
