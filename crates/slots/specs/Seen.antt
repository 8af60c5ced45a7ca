-- The records of the code, by what they hold. A free slot's name is not part of that.
use Rattle.std.specs.Prelude.{ℕ, List, map, Option}
use Rattle.std.specs.Option.{option_map}
use Rattle.header.specs.Kept.{name_of}
use Rattle.header.specs.Names.{NameRecord}
use Rattle.slots.specs.Slides as slides
use Rattle.slots.specs.Slides.{Object, Slide, free, arriving, held}
use Rattle.slots.specs.declared.indices.SlotIndex.{SlotIndex}
use Rattle.slots.specs.declared.records.Arrival.{Arrival}
use Rattle.slots.specs.declared.records.Event.{Event}
use Rattle.slots.specs.declared.records.Event.TheVariants.{Header, Segment, Expiry, Resent, Clearing}
use Rattle.slots.specs.declared.records.Holding.{Holding}
use Rattle.slots.specs.declared.records.Slot.{Slot}
use Rattle.slots.specs.declared.records.Slots.{Slots}
use Rattle.slots.specs.declared.records.State.{State}
use Rattle.slots.specs.declared.records.State.TheVariants.{Free, Arriving, Held}

abbrev pub object_of : Arrival → NameRecord → Object
object_of a n =
    record { transport = a.transport; number = a.number; image = record { size = a.progress.size; subtype = a.subtype; name = n; version = a.version; expire = a.expire; trigger = a.trigger; category = a.category }; progress = a.progress }

abbrev pub slide_in : Holding → NameRecord → Slide
slide_in h n = record { transport = h.transport; number = h.number; name = n; version = h.version; expire = h.expire; size = h.size }

abbrev pub state_of : State → NameRecord → slides.Slot
state_of Free n = free
state_of (Arriving a) n = arriving (object_of a n)
state_of (Held h) n = held (slide_in h n)

abbrev pub seen : Slot → slides.Slot
seen s = state_of s.state (name_of s.name)

-- an event of the code at a slot with the name n
abbrev pub event_of : Event → NameRecord → slides.Event
event_of (Header a) n = slides.header (object_of a n)
event_of (Segment s) n = slides.segment s
event_of (Expiry t) n = slides.expiry t
event_of (Resent t) n = slides.resent t
event_of Clearing n = slides.clearing

abbrev pub all_seen : Slots → List slides.Slot
all_seen s = map seen s.records

-- the name beside the state, of a free slot too
abbrev pub label : Slot → NameRecord
label s = name_of s.name

abbrev pub all_names : Slots → List NameRecord
all_names s = map label s.records

-- which slot is meant, as a number
abbrev pub index_of : Option SlotIndex → Option ℕ
index_of o = option_map (λ k. k.index) o
