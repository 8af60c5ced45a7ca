use Rattle.std.proofs.Common.{rules, Ok, Err, arith}
use Rattle.moment.specs.Field.{time_fault}
use Rattle.receiver.proofs.Timed.{setting_says}
use Rattle.receiver.specs.Views.{world_of}
use Rattle.std.proofs.lemmas.Grind.{common_steps}
use Rattle.receiver.proofs.parts.Parts.moment_in.Goals as goal

pub returns-in_err-admit-clause-sets : goal.returns-in_err-admit-clause-sets
returns-in_err-admit-clause-sets c =
    λ m. setting_says (world_of c.args.self.now c.args.memory.now m) c.args.field.now _ (search rules)

pub returns-in_err-read_time-clause-sets : goal.returns-in_err-read_time-clause-sets
returns-in_err-read_time-clause-sets c =
    λ m. setting_says (world_of c.args.self.now c.args.memory.now m) c.args.field.now _ (grind (arith, common_steps))

pub returns-in-Now-clause-sets : goal.returns-in-Now-clause-sets
returns-in-Now-clause-sets c =
    λ m. setting_says (world_of c.args.self.now c.args.memory.now m) c.args.field.now (Err time_fault) (search rules)

pub returns-in-At-clause-sets : goal.returns-in-At-clause-sets
returns-in-At-clause-sets c =
    λ m. setting_says (world_of c.args.self.now c.args.memory.now m) c.args.field.now (Ok c.in-At.moment) (search rules)
