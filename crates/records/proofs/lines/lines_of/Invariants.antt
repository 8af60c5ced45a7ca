use Rattle.std.proofs.Common.{◌≡◌, ◌+◌, ◌++◌, map, drop, vec_items}
use Rattle.calls.specs.Plain.{reply_of}
use Rattle.records.specs.Lines.{lines_from}
use Rattle.records.specs.Records.{seen}
use Rattle.records.proofs.lines.lines_of.Given as goal

-- the lines of what is left stand behind those that are there
abbrev pub invariant-loop-i : goal.invariant-loop-i
invariant-loop-i l =
    vec_items l.all ++ lines_from (l.i + 1) (map seen (drop l.i l.records)) (map reply_of l.left) ≡ lines_from 1 (map seen l.records) (map reply_of l.replies)
