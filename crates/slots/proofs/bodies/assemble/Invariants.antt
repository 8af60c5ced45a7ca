use Rattle.std.proofs.Common.{◌≡◌, take}
use Rattle.slots.specs.Bodies.{assembled}
use Rattle.slots.proofs.bodies.assemble.Given as goal

-- the segments so far have done what they do
abbrev pub invariant-loop-segment : goal.invariant-loop-segment
invariant-loop-segment l =
    let r = assembled l.base l.size l.initial.memory (take l.segment-index l.sent) in
    (l.progress ≡ r.progress) × (l.memory ≡ r.memory)
