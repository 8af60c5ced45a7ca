-- What a segment does: it goes into its object's part of body memory, and with the last one missing the slide is filed.
use Rattle.std.specs.Prelude.{ℕ, ◌+◌, ◌*◌, Bool, cond, List, length, slice_set}
use Rattle.packed.specs.Parts.{pasted}
use Rattle.refusal.specs.declared.Fault.{Fault}
use Rattle.refusal.specs.declared.causes.Cause.{Cause}
use Rattle.refusal.specs.declared.causes.Cause.TheVariants.{BodyMemoryMisfit, NotArriving, SegmentMisfit}
use Rattle.refusal.specs.declared.causes.Layer as layers
use Rattle.rules.specs.Headers.{receiver_fault, on_some}
use Rattle.rules.specs.Triggers.{Verdict, nothing, effect, late, wait, verdict}
use Rattle.rules.specs.Worlds.{State, World, slot_at, fits_memory, holding, with_state, vacate, armed, categorised}
use Rattle.rules.specs.declared.answers.Answer.{Answer}
use Rattle.rules.specs.declared.answers.Answer.TheVariants.{Taken, Repeat, Filed, Shown, Late, Refused}
use Rattle.slots.specs.Searches.{first_slot}
use Rattle.slots.specs.Segments.{landing, grown, complete}
use Rattle.slots.specs.Slides.{Slot, free, arriving, held, Object, slide_of, with_progress, comes, named}
use Rattle.slots.specs.declared.progress.Landing.{Landing}
use Rattle.slots.specs.declared.progress.Landing.TheVariants.{Misfit, Again, At}
use Rattle.slots.specs.declared.progress.Segment.{Segment}

-- a refusal where an object is put together
abbrev pub assembly_fault : Cause → Fault
assembly_fault c = record { cause = c; layer = layers.TheVariants.Assembly; place = 0 }

-- slot k comes to hold x, and nothing else changes
abbrev pub put : ℕ → Slot → State → State
put k x s = holding (slice_set s.slots k x) s.waiting s.places s

-- the object in slot k takes a segment of these bytes at an offset of its body
abbrev pub received : ℕ → Object → Segment → ℕ → List ℕ → World → World
received k o g at xs w =
    record { state = put k (arriving (with_progress o (grown o.progress g))) w.state; memory = pasted w.memory (k * w.state.room + at) xs; display = w.display }

-- the slide in slot k is all there: the held one of its name is released, its category taken from any other, its trigger armed
abbrev pub filed : ℕ → Object → World → World
filed k o w =
    armed (verdict w.state.clock o.image.trigger) k (categorised o.image.category o.number (with_state (put k (held (slide_of o)) (vacate (named o.image.name) w.state)) w))

abbrev pub told_filing : Verdict → ℕ → Answer
told_filing nothing n = Filed n
told_filing effect n = Shown n
told_filing late n = Late n
told_filing (wait m) n = Filed n

-- a segment that lands
abbrev pub landed : ℕ → Object → Segment → ℕ → List ℕ → World → Answer × World
landed k o g at xs w =
    cond (complete (grown o.progress g)) (told_filing (verdict w.state.clock o.image.trigger) o.number, filed k (with_progress o (grown o.progress g)) (received k o g at xs w)) (Taken o.number, received k o g at xs w)

abbrev pub on_landing : Landing → ℕ → Object → Segment → List ℕ → World → Answer × World
on_landing Misfit k o g xs w = (Refused (assembly_fault SegmentMisfit), w)
on_landing Again k o g xs w = (Repeat o.number, w)
on_landing (At at) k o g xs w = landed k o g at xs w

abbrev pub on_arriving : {A : Type 0} → Slot → A → (Object → A) → A
on_arriving free x f = x
on_arriving (arriving o) x f = f o
on_arriving (held y) x f = x

abbrev pub segment_of : ℕ → Bool → List ℕ → Segment
segment_of n last xs = record { number = n; last = last; length = length xs }

unfoldable pub segment_step : World → ℕ → ℕ → Bool → List ℕ → Answer × World
segment_step w transport n last xs =
    cond (fits_memory w) (on_some (first_slot (comes transport) w.state.slots) (Refused (assembly_fault NotArriving), w) (λ k. on_arriving (slot_at w.state k) (Refused (assembly_fault NotArriving), w) (λ o. on_landing (landing o.progress (segment_of n last xs)) k o (segment_of n last xs) xs w))) (Refused (receiver_fault BodyMemoryMisfit), w)
