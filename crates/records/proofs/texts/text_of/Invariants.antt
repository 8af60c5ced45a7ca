use Rattle.std.proofs.Common.{◌≡◌, ◌++◌, drop, vec_items}
use Rattle.records.specs.Texts.{text_of}
use Rattle.records.proofs.texts.text_of.Given as goal

-- the text of what is left stands behind what is there
abbrev pub invariant-loop-line : goal.invariant-loop-line
invariant-loop-line l = vec_items l.all ++ text_of (drop l.line-index l.lines) ≡ text_of l.lines
