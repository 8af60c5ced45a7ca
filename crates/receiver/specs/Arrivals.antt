-- The object that arrives in a slot, and what becomes of it with a segment.
use Rattle.std.specs.Prelude.{◌≡◌, ℕ, Bool, true, cond, List, [], Some, None, Ok, Err, Option, Result, slice_index_or}
use Rattle.header.specs.Kept.{no_name}
use Rattle.receiver.specs.Views.{state_of}
use Rattle.receiver.specs.declared.filings.Received.{Received}
use Rattle.receiver.specs.declared.filings.Received.TheVariants.{Again, Part, Whole}
use Rattle.receiver.specs.declared.parts.Parts.{Parts}
use Rattle.refusal.specs.declared.Fault.{Fault}
use Rattle.rules.specs.Assembly.{put, told_filing, segment_step, segment_of, on_landing}
use Rattle.rules.specs.Effects.{arming_effects, segment_effects, landing_effects}
use Rattle.rules.specs.Headers.{is_held}
use Rattle.rules.specs.Triggers.{verdict, Effect}
use Rattle.rules.specs.Worlds.{State, World, slot_at, any, vacate, armed, categorised}
use Rattle.rules.specs.declared.answers.Answer.{Answer}
use Rattle.rules.specs.declared.answers.Answer.TheVariants.{Taken, Repeat, Refused}
use Rattle.slots.specs.Contents.{object_in}
use Rattle.slots.specs.Seen.{object_of, all_names}
use Rattle.slots.specs.Segments.{landing, after_segment, complete}
use Rattle.slots.specs.Slides.{Object, arriving, held, slide_of, with_progress, named, numbered}
use Rattle.slots.specs.declared.indices.SlotIndex.{SlotIndex}
use Rattle.slots.specs.declared.progress.Progress.{Progress}
use Rattle.slots.specs.declared.progress.Segment.{Segment}
use Rattle.slots.specs.declared.records.Arrival.{Arrival}

-- an arrival in slot k, under the name beside it
abbrev pub object_at : Parts → ℕ → Arrival → Object
object_at p k a = object_of a (slice_index_or (all_names p.slots) k no_name)

abbrev pub Arrives : Parts → ℕ → Option Arrival → Type 0
Arrives p k None = object_in (slot_at (state_of p) k) ≡ None
Arrives p k (Some a) = slot_at (state_of p) k ≡ arriving (object_at p k a)

abbrev pub InSlot : Result (SlotIndex × Arrival) Fault → Parts → Type 0
InSlot (Err e) p = Unit {0}
InSlot (Ok (k, a)) p = Arrives p k.index (Some a)

-- a segment under a TransportId is for the object in that slot, or is so refused
abbrev pub Looks : Result (SlotIndex × Arrival) Fault → Parts → World → ℕ → Type 0
Looks (Err e) p w transport =
    (n : ℕ) (last : Bool) (xs : List ℕ) → (segment_step w transport n last xs ≡ (Refused e, w)) × (segment_effects w transport n last xs ≡ [])
Looks (Ok (k, a)) p w transport =
    (n : ℕ) (last : Bool) (xs : List ℕ) → (segment_step w transport n last xs ≡ on_landing (landing a.progress (segment_of n last xs)) k.index (object_at p k.index a) (segment_of n last xs) xs w) × (segment_effects w transport n last xs ≡ landing_effects (landing a.progress (segment_of n last xs)) k.index (object_at p k.index a) (segment_of n last xs) xs w)

-- the object with a segment
abbrev pub more : Object → Segment → Object
more o g = with_progress o (after_segment o.progress g)

-- slot k once its object has come so far: with the last segment its slide is held, and the held slide of its name is released
abbrev pub stored : ℕ → Object → Progress → State → State
stored k o q s =
    cond (complete q) (put k (held (slide_of (with_progress o q))) (vacate (named o.image.name) (put k (arriving (with_progress o q)) s))) (put k (arriving (with_progress o q)) s)

-- a slide that is whole is held in its slot
abbrev pub KeptIn : Received → State → Type 0
KeptIn (Again n) s = Unit {0}
KeptIn (Part n) s = Unit {0}
KeptIn (Whole k a) s = (any (numbered a.number) s.slots ≡ true) × (is_held (slot_at s k.index) ≡ true)

abbrev pub Holds : Result Received Fault → State → Type 0
Holds (Err e) s = Unit {0}
Holds (Ok r) s = KeptIn r s

-- what a segment comes to in the world once it was received: of a slide that is whole the category is taken and the trigger armed
abbrev pub comes_to : Result Received Fault → World → Answer × World
comes_to (Err e) w = (Refused e, w)
comes_to (Ok (Again n)) w = (Repeat n, w)
comes_to (Ok (Part n)) w = (Taken n, w)
comes_to (Ok (Whole k a)) w =
    (told_filing (verdict w.state.clock a.trigger) a.number, armed (verdict w.state.clock a.trigger) k.index (categorised a.category a.number w))

-- and what takes effect with it
abbrev pub comes_to_effects : Result Received Fault → World → List Effect
comes_to_effects (Err e) w = []
comes_to_effects (Ok (Again n)) w = []
comes_to_effects (Ok (Part n)) w = []
comes_to_effects (Ok (Whole k a)) w = arming_effects (verdict w.state.clock a.trigger) k.index (categorised a.category a.number w)

-- a segment of these bytes under a TransportId comes to that, where world w has become u
abbrev pub Receives : Result Received Fault → World → World → ℕ → ℕ → Bool → List ℕ → Type 0
Receives r w u transport n last xs =
    (segment_step w transport n last xs ≡ comes_to r u) × (segment_effects w transport n last xs ≡ comes_to_effects r u)
