-- The verdicts of the code as the rules have them.
use Rattle.receiver.specs.declared.verdicts.Verdict as code
use Rattle.rules.specs.declared.answers.Answer.{Answer}
use Rattle.rules.specs.declared.answers.Answer.TheVariants.{Shown, Late}
use Rattle.std.specs.Prelude.{ℕ}
use Rattle.rules.specs.Triggers.{Verdict, nothing, effect, late, wait}

abbrev pub verdict_of : code.Verdict → Verdict
verdict_of code.TheVariants.Nothing = nothing
verdict_of code.TheVariants.Effect = effect
verdict_of code.TheVariants.Late = late
verdict_of (code.TheVariants.Wait m) = wait m

-- what is answered where a trigger took effect or was late, and else
abbrev pub told_by : Verdict → ℕ → Answer → Answer
told_by nothing n quiet = quiet
told_by effect n quiet = Shown n
told_by late n quiet = Late n
told_by (wait m) n quiet = quiet
