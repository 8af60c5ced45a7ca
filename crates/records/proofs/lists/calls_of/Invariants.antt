use Rattle.std.proofs.Common.{◌≡◌, ◌++◌, map, drop, vec_items}
use Rattle.calls.specs.Plain.{call_of}
use Rattle.records.specs.Records.{seen}
use Rattle.records.specs.Sent.{calls_from}
use Rattle.records.proofs.lists.calls_of.Given as goal

-- the calls of what is left stand behind those that are there
abbrev pub invariant-loop-record : goal.invariant-loop-record
invariant-loop-record l =
    map call_of (vec_items l.all) ++ calls_from (map seen (drop l.record-index l.records)) ≡ calls_from (map seen l.records)
