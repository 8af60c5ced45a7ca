use Rattle.std.proofs.Common.{vec_items}
use Rattle.tracecases.specs.Cases.{seen}
use Rattle.tracecases.specs.Told.{told}
use Rattle.tracecases.proofs.Back.{tells_each}
use Rattle.tracecases.proofs.Telling.{shorter, next, ends}
use Rattle.tracecases.proofs.tellings.tell_cases.Goals as goal

pub loop-case-smaller : goal.loop-case-smaller
loop-case-smaller c = shorter c.loop-case.left.now (seen c.in-Some.case, c.in-Some.rest.now) c.in-Some.ensures

pub loop-case-preserved : goal.loop-case-preserved
loop-case-preserved c =
    next (vec_items c.loop-case.text) (vec_items c.write_case.new.text) c.loop-case.left.now (told c.args.input.now) (seen c.in-Some.case, c.in-Some.rest.now) c.in-Some.ensures c.in_ok-write_case.ensures c.loop-case.invariant

pub returns : goal.returns
returns c =
    let value = ends (vec_items c.loop-case.text) (told c.args.input.now) c.loop-case.left.now c.in_default.ensures c.loop-case.invariant in
    record { value = value; law = tells_each c.args.input.now (vec_items c.loop-case.text) value }
