use Rattle.std.proofs.Common.{◌≡◌, length, vec_items}
use Rattle.hexpairs.specs.Text.{bytes_of}
use Rattle.hexpairs.proofs.Steps.{onto}
use Rattle.hexpairs.proofs.hex_bytes.Given as goal

-- what was read, in front of what comes of the rest, is what comes of the whole
abbrev pub invariant-loop-left : goal.invariant-loop-left
invariant-loop-left l = onto (vec_items l.bytes) (bytes_of l.left) ≡ bytes_of l.text

abbrev pub decreases-loop-left : goal.decreases-loop-left
decreases-loop-left l = length l.left
