use Rattle.std.proofs.Common.{rules, Ok, Err}
use Rattle.receiver.proofs.Insides.{sound_of}
use Rattle.receiver.proofs.Timed.{reading_says}
use Rattle.receiver.specs.Views.{world_of}
use Rattle.refusal.specs.declared.causes.Cause.TheVariants.{ReadingBelowClock}
use Rattle.rules.specs.Headers.{receiver_fault}
use Rattle.receiver.proofs.parts.Parts.reading.Goals as goal

pub returns-in_err-moment-clause-reads : goal.returns-in_err-moment-clause-reads
returns-in_err-moment-clause-reads c =
    λ m. reading_says (world_of c.args.self.now c.args.memory.now m) c.args.field.now (sound_of c.args.self.now) _ (search rules)

pub returns-then-moment-self-clause-reads : goal.returns-then-moment-self-clause-reads
returns-then-moment-self-clause-reads c =
    λ m. reading_says (world_of c.args.self.now c.args.memory.now m) c.args.field.now (sound_of c.args.self.now) (Err (receiver_fault ReadingBelowClock)) (search rules)

pub returns-clause-reads : goal.returns-clause-reads
returns-clause-reads c =
    λ m. reading_says (world_of c.args.self.now c.args.memory.now m) c.args.field.now (sound_of c.args.self.now) (Ok c.in_ok-moment.moment) (search rules)
