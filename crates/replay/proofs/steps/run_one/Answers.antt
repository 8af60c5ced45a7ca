use Rattle.std.proofs.Common.{sym, ap, subst, ◌∙◌}
use Rattle.calls.specs.Plain.{call_of}
use Rattle.receiver.specs.Receivers.{world}
use Rattle.replay.proofs.Stepped.{read, reading_is}
use Rattle.rules.specs.Effects.{effects}
use Rattle.rules.specs.Reached.{Reached}
use Rattle.rules.specs.Runs.{step}
use Rattle.rules.specs.Worlds.{World}
use Rattle.replay.proofs.steps.run_one.Goals as goal

pub returns-in-Time-clause-replied : goal.returns-in-Time-clause-replied
returns-in-Time-clause-replied g c =
    let w : World = world g.D.Display.meaning c.args.receiver.now c.args.memory.now in
    read w c.in-Time.bytes.now c.read.result (world g.D.Display.meaning c.read.new.self c.args.memory.now) c.requires c.read.ensures.world
    ∙ ap (λ x. step w (call_of x)) (sym c.in-Time.is)

pub returns-in-Time-clause-shows : goal.returns-in-Time-clause-shows
returns-in-Time-clause-shows g c =
    let w : World = world g.D.Display.meaning c.args.receiver.now c.args.memory.now in
    subst (λ es. Reached g.D.Display.told c.args.receiver.now.display es c.read.new.self.display) (reading_is w c.in-Time.bytes.now c.requires ∙ ap (λ x. effects w (call_of x)) (sym c.in-Time.is)) c.read.ensures.shows
