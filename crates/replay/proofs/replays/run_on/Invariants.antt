use Rattle.std.proofs.Common.{◌+◌, ◌<◌, ◌≤◌, length, map, take, drop, vec_items, vec_len, vec_capacity}
use Rattle.calls.specs.Plain.{call_of, reply_of}
use Rattle.receiver.specs.Receivers.{world}
use Rattle.replay.specs.Ends.{Ran}
use Rattle.replay.specs.declared.ended.Ended.TheVariants.{NowRunning}
use Rattle.replay.proofs.replays.run_on.Given as goal

-- the clock runs, there is room for the replies to come, and the calls so far have run
abbrev pub invariant-loop-call : goal.invariant-loop-call
invariant-loop-call g l = record {
  runs : 0 < l.receiver.parts.clock;
  room : vec_len l.replies + length (drop l.call-index l.calls) ≤ vec_capacity l.replies;
  ran : Ran g.D.Display.meaning g.D.Display.told (world g.D.Display.meaning l.initial.receiver l.initial.memory) l.initial.receiver.display (map call_of (take l.call-index l.calls)) (map reply_of (vec_items l.initial.replies)) (record { replies = l.replies; receiver = NowRunning l.receiver }) l.memory;
}
