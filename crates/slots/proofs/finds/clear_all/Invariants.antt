use Rattle.std.proofs.Common.{◌≡◌, ◌++◌, map, take, drop}
use Rattle.slots.specs.Searches.{vacated}
use Rattle.slots.specs.Seen.{seen, label}
use Rattle.slots.proofs.finds.clear_all.Given as goal

-- the slots before this one are done, and the others are as they were
abbrev pub invariant-loop-slot : goal.invariant-loop-slot
invariant-loop-slot g l =
    let test = g.T.SlotTest.test l.test in
    let xs = map seen l.initial.records in
    (map seen l.records ≡ vacated test (take l.slot-index xs) ++ drop l.slot-index xs)
    × (map label l.records ≡ map label l.initial.records)
