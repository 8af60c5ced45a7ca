-- What a header does: an image begins an object or is sent again for a held slide, an update changes a held slide.
use Rattle.std.specs.Prelude.{ℕ, suc, Bool, true, false, cond, not, ◌&&◌, List, [], ◌∷◌, Some, None, Ok, Err, Option, Result, ◌==◌, nat_lt, slice_set}
use Rattle.header.specs.Headers.{HeaderRecord, header_of}
use Rattle.header.specs.declared.kinds.Category.{Category}
use Rattle.header.specs.declared.kinds.Kind.{Kind}
use Rattle.header.specs.declared.kinds.Kind.TheVariants.{Image, Update}
use Rattle.refusal.specs.declared.Fault.{Fault}
use Rattle.refusal.specs.declared.causes.Cause.{Cause}
use Rattle.refusal.specs.declared.causes.Cause.TheVariants.{BodyMemoryMisfit, ExpiryNotAhead, SlideNotHeld, NoSlotToUse}
use Rattle.refusal.specs.declared.causes.Layer.TheVariants.{Receiver}
use Rattle.rules.specs.Triggers.{Verdict, nothing, effect, late, wait, verdict}
use Rattle.rules.specs.Worlds.{State, World, slot_at, fits_memory, holding, with_state, vacate, replaced, armed, categorised}
use Rattle.rules.specs.declared.answers.Answer.{Answer}
use Rattle.rules.specs.declared.answers.Answer.TheVariants.{Taken, Repeat, Shown, Late, Changed, Refused}
use Rattle.shelf.specs.declared.entries.Entry.{Entry}
use Rattle.slots.specs.Searches.{first_slot, first_free}
use Rattle.slots.specs.Slides as slides
use Rattle.slots.specs.Slides.{Slot, free, arriving, held, arrival, image_of, real_category, moved, comes, comes_again, named, versioned, sent_under, passed, number_in}

-- a refusal by the receiver itself
abbrev pub receiver_fault : Cause → Fault
receiver_fault c = record { cause = c; layer = Receiver; place = 0 }

-- what is there, or else
abbrev pub on_some : {A : Type 0} → Option ℕ → A → (ℕ → A) → A
on_some None x f = x
on_some (Some k) x f = f k

abbrev pub or_else : Option ℕ → Option ℕ → Option ℕ
or_else (Some k) o = Some k
or_else None o = o

-- no trigger waits for slot k
abbrev pub idle : List (Entry ℕ) → ℕ → Bool
idle [] k = true
idle (e ∷ es) k = not (e.load == k) && idle es k

abbrev pub is_held : Slot → Bool
is_held free = false
is_held (arriving o) = false
is_held (held x) = true

-- the number n lies below that in the slot found so far
abbrev pub lower : State → ℕ → Option ℕ → Bool
lower s n None = true
lower s n (Some j) = nat_lt n (number_in (slot_at s j))

-- the slot of the held slide with the lowest number among those for which no trigger waits; xs are the slots from k on
abbrev pub oldest_from : State → ℕ → List Slot → Option ℕ → Option ℕ
oldest_from s k [] best = best
oldest_from s k (x ∷ xs) best =
    oldest_from s (suc k) xs (cond (is_held x && (idle s.waiting k && lower s (number_in x) best)) (Some k) best)

-- the slot for an object: where its TransportId arrives, else the next free one, else that of the oldest slide which no trigger keeps
abbrev pub slot_for : State → ℕ → Option ℕ
slot_for s transport =
    or_else (first_slot (comes transport) s.slots) (or_else (first_free s.slots s.recent) (oldest_from s 0 s.slots None))

-- slot k is given to an object, with the next number
abbrev pub begun : ℕ → ℕ → slides.Image → State → State
begun k transport i s =
    let t : State = replaced k (arriving (arrival transport (suc s.given) i)) s in
    record { clock = t.clock; given = suc s.given; recent = k; room = t.room; slots = t.slots; waiting = t.waiting; places = t.places }

-- a new image: it must expire above the clock, and there must be a slot and a number for it
abbrev pub new_image : World → ℕ → slides.Image → Answer × World
new_image w transport i =
    cond (passed w.state.clock i.expire) (Refused (receiver_fault ExpiryNotAhead), w) (cond (w.state.given == 4294967295) (Refused (receiver_fault NoSlotToUse), w) (on_some (slot_for w.state transport) (Refused (receiver_fault NoSlotToUse), w) (λ k. (Taken (suc w.state.given), with_state (begun k transport i w.state) w))))

abbrev pub told_update : Verdict → ℕ → Answer
told_update nothing n = Changed n
told_update effect n = Shown n
told_update late n = Late n
told_update (wait m) n = Changed n

-- a category that an update gives, 00 00 being none
abbrev pub recategorised : Option Category → ℕ → World → World
recategorised None n w = w
recategorised (Some c) n w = categorised (real_category c) n w

-- what a header's trigger and category do for the slide in slot k, each where it is given: the one is armed, the other set
abbrev pub amended : ℕ → HeaderRecord → World → Answer × World
amended k h w =
    (told_update (verdict w.state.clock h.trigger) (number_in (slot_at w.state k)), armed (verdict w.state.clock h.trigger) k (recategorised h.category (number_in (slot_at w.state k)) w))

-- an update amends the held slide of its name
abbrev pub update_step : World → HeaderRecord → Answer × World
update_step w h =
    on_some (first_slot (named h.name) w.state.slots) (Refused (receiver_fault SlideNotHeld), w) (λ k. amended k h w)

-- the slide in slot k takes a TransportId
abbrev pub with_transport : ℕ → ℕ → State → State
with_transport k transport s =
    holding (slice_set s.slots k (moved (slides.resent transport) (slot_at s k))) s.waiting s.places s

-- it is sent again under that: an object that arrives under it is dropped
abbrev pub resent : ℕ → ℕ → State → State
resent k transport s = with_transport k transport (vacate (comes transport) s)

-- a changed header for the slide in slot k: it must expire above the clock, and amends the slide
abbrev pub changed : World → ℕ → HeaderRecord → ℕ → Answer × World
changed w transport h k =
    cond (passed w.state.clock h.expire) (Refused (receiver_fault ExpiryNotAhead), w) (amended k h (with_state (resent k transport w.state) w))

-- an image with the name and version of a held slide is a repeat if that was sent under its TransportId, else a changed header;
-- another is a repeat if it arrives just so
abbrev pub image_step : World → ℕ → HeaderRecord → Answer × World
image_step w transport h =
    on_some (first_slot (versioned h.name (image_of h).version) w.state.slots) (on_some (first_slot (comes_again transport (image_of h)) w.state.slots) (new_image w transport (image_of h)) (λ k. (Repeat (number_in (slot_at w.state k)), w))) (λ k. cond (sent_under transport (slot_at w.state k)) (Repeat (number_in (slot_at w.state k)), w) (changed w transport h k))

abbrev pub by_kind : Kind → World → ℕ → HeaderRecord → Answer × World
by_kind Image w transport h = image_step w transport h
by_kind Update w transport h = update_step w h

abbrev pub on_header : Result HeaderRecord Fault → World → ℕ → Answer × World
on_header (Err e) w transport = (Refused e, w)
on_header (Ok h) w transport = by_kind h.kind w transport h

unfoldable pub header_step : World → ℕ → List ℕ → Answer × World
header_step w transport xs =
    cond (fits_memory w) (on_header (header_of xs w.state.room) w transport) (Refused (receiver_fault BodyMemoryMisfit), w)
