use Rattle.std.proofs.Common.{◌≡◌, ℕ, ◌+◌, List, Ok, Err, get_or, map, vec_items, refl, arith, length-drop, Bor}
use Rattle.std.proofs.lemmas.List.{take_rest}
use Rattle.calls.specs.Plain.{reply_of}
use Rattle.calls.specs.declared.Call.{Call}
use Rattle.calls.specs.declared.Call.TheVariants.{Header, Segment, Group, Time, FindName, NextPlace, Body, Card, CardByte, SlotSize}
use Rattle.calls.specs.declared.Reply.TheVariants.{Counted}
use Rattle.receiver.specs.Receivers.{world}
use Rattle.replay.proofs.Clocked.{started_above, unset_on}
use Rattle.replay.proofs.Going.{goes_further, set_further, runs_on}
use Rattle.replay.specs.Ends.{NoTime}
use Rattle.replay.specs.declared.ended.Ended.TheVariants.{StillUnset, NowRunning}
use Rattle.replay.specs.declared.replays.Replayed.{Replayed}
use Rattle.rules.specs.Worlds.{World}
use Rattle.replay.proofs.replays.run_unset.Goals as goal

no_time : (c : Call) → ((b : Bor (List ℕ)) → c ≡ Time b → ⊥) → NoTime c
no_time (Header t xs) h = tt
no_time (Segment t s) h = tt
no_time (Group xs) h = tt
no_time (Time xs) h = h xs refl
no_time (FindName n) h = tt
no_time (NextPlace p) h = tt
no_time (Body n) h = tt
no_time Card h = tt
no_time (CardByte i) h = tt
no_time SlotSize h = tt

pub returns-in-Err-ask : goal.returns-in-Err-ask
returns-in-Err-ask g c =
    (c.loop-i.i, rw (c.in-Err-ask.ensures.wanting.0, c.in-Err-ask.ensures.wanting.1) c.loop-i.invariant.ran)

pub run_on-requires-clause-runs : goal.run_on-requires-clause-runs
run_on-requires-clause-runs g c =
    started_above (world g.D.Display.meaning c.loop-i.receiver c.loop-i.memory) c.in-Time.bytes.now c.in-Ok.started.shows (world g.D.Display.meaning c.in-Ok.started.receiver c.loop-i.memory) c.in-Ok.ensures.sets

pub returns-in-Ok : goal.returns-in-Ok
returns-in-Ok g c =
    let m = g.D.Display.meaning in
    let told = g.D.Display.told in
    let w : World = world m c.args.receiver c.args.memory.now in
    let d = c.args.receiver.display in
    let cs = c.args.calls.now in
    let i = c.loop-i.i in
    let was = map reply_of (vec_items c.args.replies) in
    let x : Replayed g.row.D.Denot = record { replies = c.loop-i.replies; receiver = StillUnset c.loop-i.receiver } in
    let y : Replayed g.row.D.Denot = record { replies = c.push.new.self; receiver = NowRunning c.in-Ok.started.receiver } in
    let r = set_further m told w d cs i _ c.in-Time.bytes (Counted (Ok c.in-Ok.started.shows)) was x y c.loop-i.memory c.loop-i-test.true c.in-Time.is c.loop-i.invariant.unset c.loop-i.invariant.ran (rw c.unwrap.ensures at c.push.ensures.items) c.in-Ok.ensures.sets c.in-Ok.ensures.shows in
    runs_on m told w d cs (i + 1) was y c.run_on.result.0 c.loop-i.memory c.run_on.new.memory (omega (arith, c.loop-i-test.true)) r c.run_on.result.1 (rw take_rest at c.run_on.ensures)

pub loop-i-preserved : goal.loop-i-preserved
loop-i-preserved g c =
    let m = g.D.Display.meaning in
    let told = g.D.Display.told in
    let w : World = world m c.args.receiver c.args.memory.now in
    let d = c.args.receiver.display in
    let was = map reply_of (vec_items c.args.replies) in
    let cs = c.args.calls.now in
    let i = c.loop-i.i in
    let u : World = world m c.loop-i.receiver c.loop-i.memory in
    let x : Replayed g.row.D.Denot = record { replies = c.loop-i.replies; receiver = StillUnset c.loop-i.receiver } in
    elim c.match-call.branch [
      | goal.in-Time+in-Err y ↦
          let q : Replayed g.row.D.Denot = record { replies = y.push-in-Err.new.self; receiver = StillUnset y.in-Err.unmoved.receiver } in
          rw (y.receiver-is, y.replies-is, y.memory-is)
          (record {
            unset = rw y.in-Err.ensures.sets.2 c.loop-i.invariant.unset;
            room = omega (arith, rw y.unwrap-in-Err.ensures at y.push-in-Err.ensures.len, y.push-in-Err.ensures.capacity, c.loop-i.invariant.room, length-drop i cs, length-drop (i + 1) cs, c.loop-i-test.true);
            ran = set_further m told w d cs i _ y.in-Time.bytes (Counted (Err y.in-Err.unmoved.fault)) was x q c.loop-i.memory c.loop-i-test.true y.in-Time.is c.loop-i.invariant.unset c.loop-i.invariant.ran (rw y.unwrap-in-Err.ensures at y.push-in-Err.ensures.items) y.in-Err.ensures.sets.0 y.in-Err.ensures.shows;
          })
      | goal.in_default+in-Ok-ask y ↦
          let q : Replayed g.row.D.Denot = record { replies = y.push-in-Ok-ask.new.self; receiver = StillUnset y.ask.new.receiver } in
          let e = y.in-Ok-ask.ensures.replied in
          rw (y.receiver-is, y.replies-is, y.memory-is)
          (record {
            unset = unset_on u (world m y.ask.new.receiver y.ask.new.memory) (get_or cs i _) (reply_of y.in-Ok-ask.reply) (no_time (get_or cs i _) y.in_default.not-Time) c.loop-i.invariant.unset e;
            room = omega (arith, rw y.unwrap-in-Ok-ask.ensures at y.push-in-Ok-ask.ensures.len, y.push-in-Ok-ask.ensures.capacity, c.loop-i.invariant.room, length-drop i cs, length-drop (i + 1) cs, c.loop-i-test.true);
            ran = goes_further m told w d cs i _ y.in-Ok-ask.reply was x q c.loop-i.memory y.ask.new.memory c.loop-i-test.true c.loop-i.invariant.ran (rw y.unwrap-in-Ok-ask.ensures at y.push-in-Ok-ask.ensures.items) e y.in-Ok-ask.ensures.shows;
          })
    ]
