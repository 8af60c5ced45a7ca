use Rattle.std.proofs.Common.{◌<◌, [], ◌∷◌, map, length, refl, rules}
use Rattle.std.proofs.lemmas.Slice.{pushed}
use Rattle.records.specs.Records.{records_of, seen}
use Rattle.records.proofs.Back.{gives_back}
use Rattle.records.proofs.Listed.{next}
use Rattle.records.proofs.lists.read_records.Goals as goal

pub loop-left-preserved : goal.loop-left-preserved
loop-left-preserved c =
    let some : 0 < length c.loop-left.left.now = search rules in
    let put = pushed (c.read_record.result.0 ∷ []) refl c.in_ok-push.was c.push.ensures.items in
    rw put (next c.loop-left.all.items c.read_record.result.0 (records_of c.args.input.now) c.loop-left.left.now c.read_record.result.1.now some c.read_record.ensures c.loop-left.invariant)

pub returns-clause-law : goal.returns-clause-law
returns-clause-law c = gives_back c.args.input.now (map seen c.loop-left.all.items) (search rules)
