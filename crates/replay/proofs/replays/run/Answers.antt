use Rattle.std.proofs.Common.{map, ap}
use Rattle.calls.specs.Plain.{reply_of}
use Rattle.replay.proofs.Going.{first_replayed, all_replayed, some_replayed}
use Rattle.replay.specs.declared.ended.Ended.TheVariants.{StillUnset}
use Rattle.rules.specs.Worlds.{World}
use Rattle.replay.proofs.replays.run.Goals as goal

pub run_unset-requires-clause-unset : goal.run_unset-requires-clause-unset
run_unset-requires-clause-unset g c =
    ap (λ (w : World). w.state.clock) (c.open-receiver.ensures.opens c.args.memory.now)

pub returns-in-Ok-clause-all : goal.returns-in-Ok-clause-all
returns-in-Ok-clause-all g c =
    let d = c.args.display in
    let none = ap (map reply_of) (rw c.new-replies.ensures.items at c.reserve.ensures.items) in
    all_replayed g.D.Display.meaning g.D.Display.told d (g.met.D.Display.keeps d) c.args.slot_size c.args.memory.now _ _ c.args.calls.now _ c.run_unset.result.0 c.run_unset.new.memory (c.open-receiver.ensures.opens c.args.memory.now) c.open-receiver.ensures.keeps none c.run_unset.result.1 c.run_unset.ensures

pub returns-in-Ok-clause-first : goal.returns-in-Ok-clause-first
returns-in-Ok-clause-first g c =
    let d = c.args.display in
    let none = ap (map reply_of) (rw c.new-replies.ensures.items at c.reserve.ensures.items) in
    some_replayed g.D.Display.meaning g.D.Display.told d (g.met.D.Display.keeps d) c.args.slot_size c.args.memory.now _ _ c.args.calls.now _ c.run_unset.result.0 c.run_unset.new.memory (c.open-receiver.ensures.opens c.args.memory.now) c.open-receiver.ensures.keeps none c.run_unset.result.1 c.run_unset.ensures

pub returns-in-Err-clause-first : goal.returns-in-Err-clause-first
returns-in-Err-clause-first g c =
    let d = c.args.display in
    let none = ap (map reply_of) (rw c.new-replies.ensures.items at c.reserve.ensures.items) in
    first_replayed g.D.Display.meaning g.D.Display.told d (g.met.D.Display.keeps d) c.args.slot_size c.args.memory.now c.args.calls.now 0 (record { replies = c.reserve.new.self; receiver = StillUnset c.open-receiver.result }) c.args.memory.now (record {
      replied = none;
      left = c.open-receiver.ensures.opens c.args.memory.now;
      shown = c.open-receiver.ensures.keeps;
    })
