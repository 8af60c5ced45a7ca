use Rattle.std.proofs.Common.{map}
use Rattle.calls.specs.Plain.{call_of}
use Rattle.replay.proofs.Taping.{replayed_tape}
use Rattle.replay.proofs.tapes.record.Goals as goal

pub returns-clause-taped : goal.returns-clause-taped
returns-clause-taped g c =
    replayed_tape g.D.Display.meaning g.D.Display.told g.met.D.Display.steady g.D.Taped.reel g.met.D.Taped.records c.args.display c.args.slot_size c.args.memory.now (map call_of c.args.calls.now) c.replay.new.memory c.replay.result c.replay.ensures.replays
