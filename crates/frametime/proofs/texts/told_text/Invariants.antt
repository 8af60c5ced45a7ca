use Rattle.std.proofs.Common.{◌≡◌, ◌++◌, drop, string_bytes}
use Rattle.frametime.specs.Told.{told}
use Rattle.frametime.proofs.texts.told_text.Given as goal

-- the text of the pairs that are left stands behind what is there
abbrev pub invariant-loop-pair : goal.invariant-loop-pair
invariant-loop-pair l = string_bytes l.all ++ told (drop l.pair-index l.pairs) l.input ≡ told l.pairs l.input
