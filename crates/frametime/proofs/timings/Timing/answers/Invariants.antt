use Rattle.std.proofs.Common.{◌≡◌, ◌++◌, vec_items}
use Rattle.hexpairs.specs.Lines.{lines_of, left_of}
use Rattle.frametime.specs.Answers.{answers_to}
use Rattle.frametime.proofs.timings.Timing.answers.Given as goal

-- the answers to the lines that are left go behind those that are there
abbrev pub invariant-loop-line : goal.invariant-loop-line
invariant-loop-line l =
    vec_items l.all ++ answers_to l.self.period.value l.self.delay.value (left_of l.line-iterator) ≡ answers_to l.self.period.value l.self.delay.value (lines_of l.input)
