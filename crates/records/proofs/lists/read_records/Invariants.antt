use Rattle.std.proofs.Common.{◌≡◌, ◌++◌, map, length, vec_items}
use Rattle.records.specs.Records.{records_from, records_of, seen}
use Rattle.records.proofs.lists.read_records.Given as goal

-- the records of what is left stand behind those that are there
abbrev pub invariant-loop-left : goal.invariant-loop-left
invariant-loop-left l =
    map seen (vec_items l.all) ++ records_from (length l.left) l.left ≡ records_of l.input

abbrev pub decreases-loop-left : goal.decreases-loop-left
decreases-loop-left l = length l.left
