use Rattle.std.proofs.Common.{◌≡◌, ℕ, ◌+◌, ◌≤◌, false, List, [], length, get_or, take, sym, ap, ◌∙◌, arith}
use Rattle.slots.specs.Bodies.{assembled, sent_of}
use Rattle.slots.specs.Pieces as pieces
use Rattle.slots.specs.Pieces.{Receipt, received, segment_of, memory_with}
use Rattle.slots.specs.Segments.{landing, after_segment}
use Rattle.slots.specs.declared.bodies.Sent.{Sent}
use Rattle.slots.specs.declared.progress.Progress.{Progress}
use Rattle.slots.proofs.Assembled.{assembled_none, assembled_more, assembled_stands}
use Rattle.slots.proofs.Laid.{pieces_law, Stands}
use Rattle.slots.proofs.bodies.assemble.Goals as goal

pub returns-then-base-room-clause-law : goal.returns-then-base-room-clause-law
returns-then-base-room-clause-law c = pieces_law

pub loop-segment-init : goal.loop-segment-init
loop-segment-init c =
    let e = assembled_none c.args.base c.args.size c.args.memory.now in
    (c.new-progress.ensures ∙ ap (λ (r : Receipt). r.progress) (sym e), ap (λ (r : Receipt). r.memory) (sym e))

-- what a list of segments is read as past its end
none_sent : Sent
none_sent = record { number = 0; last = false; bytes = record { ref_ptr = (0, 0); now = [] } }

-- one segment more
one_more : (base : ℕ) (r next : Receipt) (s : pieces.Sent) (p q : Progress) (m n : List ℕ) → p ≡ r.progress → m ≡ r.memory → next ≡ received base r s → q ≡ after_segment p (segment_of s) → n ≡ memory_with (landing p (segment_of s)) base s.bytes m → (q ≡ next.progress) × (n ≡ next.memory)
one_more base r next s p q m n ep em e eq en = (
  eq ∙ ap (λ (x : Progress). after_segment x (segment_of s)) ep ∙ ap (λ (x : Receipt). x.progress) (sym e),
  en ∙ (λ j. memory_with (landing (ep j) (segment_of s)) base s.bytes (em j)) ∙ ap (λ (x : Receipt). x.memory) (sym e),
)

pub loop-segment-preserved : goal.loop-segment-preserved
unfolding none_sent
loop-segment-preserved c =
    let base = c.args.base in
    let ss = c.args.sent.now in
    let i = c.loop-segment.segment-index in
    let so_far = assembled base c.args.size c.args.memory.now (take i ss) in
    let then_so_far = assembled base c.args.size c.args.memory.now (take (i + 1) ss) in
    let more = assembled_more base c.args.size c.args.memory.now ss i none_sent c.loop-segment-test.true in
    one_more base so_far then_so_far (sent_of (get_or ss i none_sent)) c.loop-segment.progress c.receive.new.progress c.loop-segment.memory c.receive.new.memory c.loop-segment.invariant.0 c.loop-segment.invariant.1 more c.receive.ensures.progress c.receive.ensures.memory

pub receive-requires : goal.receive-requires
receive-requires c =
    let m = c.args.memory.now in
    let room : c.args.base + c.args.size ≤ length m = omega arith in
    let s : Stands c.args.base c.args.size m (assembled c.args.base c.args.size m (take c.loop-segment.segment-index c.args.sent.now)) = assembled_stands c.args.base c.args.size m (take c.loop-segment.segment-index c.args.sent.now) room in
    omega (arith, ap (λ (p : Progress). p.size) c.loop-segment.invariant.0, s.size, c.loop-segment.auto.memory)

pub returns-clause-law : goal.returns-clause-law
returns-clause-law c = pieces_law
