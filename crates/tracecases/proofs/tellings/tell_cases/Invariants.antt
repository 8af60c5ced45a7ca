use Rattle.std.proofs.Common.{◌≡◌, ◌++◌, length, vec_items}
use Rattle.tracecases.specs.Told.{told}
use Rattle.tracecases.proofs.tellings.tell_cases.Given as goal

-- the text of what is left stands behind what is there
abbrev pub invariant-loop-case : goal.invariant-loop-case
invariant-loop-case l = vec_items l.text ++ told l.left ≡ told l.input

abbrev pub decreases-loop-case : goal.decreases-loop-case
decreases-loop-case l = length l.left
