-- What takes effect in a call, in order. A refused call, a repeat and a question have none.
use Rattle.std.specs.Prelude.{ℕ, zero, suc, ◌-◌, Bool, cond, List, [], ◌∷◌, ◌++◌, map, Ok, Err, Result, ◌==◌, nat_le}
use Rattle.datagroup.specs.Groups as groups
use Rattle.datagroup.specs.Groups.{Group, group_of}
use Rattle.header.specs.Headers.{HeaderRecord, header_of}
use Rattle.header.specs.declared.kinds.Kind.{Kind}
use Rattle.header.specs.declared.kinds.Kind.TheVariants.{Image, Update}
use Rattle.moment.specs.Field.{time_of}
use Rattle.moment.specs.declared.times.Time.{Time}
use Rattle.moment.specs.declared.times.Time.TheVariants.{Now, At}
use Rattle.refusal.specs.declared.Fault.{Fault}
use Rattle.rules.specs.Assembly.{put, received, on_arriving, segment_of}
use Rattle.rules.specs.Calls.{Call, header, segment, group, time, find_name, next_place, body_of, card, card_byte, slot_size}
use Rattle.rules.specs.Clocks.{expired, walk, prepared}
use Rattle.rules.specs.Headers.{on_some, recategorised, resent}
use Rattle.rules.specs.Runs.{step}
use Rattle.rules.specs.Triggers.{Verdict, nothing, effect, late, wait, verdict, Effect}
use Rattle.rules.specs.Worlds.{World, slot_at, fits_memory, with_state, vacate, categorised, effect_at, due}
use Rattle.slots.specs.Searches.{first_slot}
use Rattle.slots.specs.Segments.{landing, grown, complete}
use Rattle.slots.specs.Slides.{Object, held, slide_of, with_progress, image_of, comes, named, versioned, sent_under, passed, number_in}
use Rattle.slots.specs.declared.progress.Landing.{Landing}
use Rattle.slots.specs.declared.progress.Landing.TheVariants as landings
use Rattle.slots.specs.declared.progress.Segment.{Segment}

-- arming: the slide in slot k at the clock's moment, or nothing
abbrev pub arming_effects : Verdict → ℕ → World → List Effect
arming_effects nothing k w = []
arming_effects effect k w = effect_at w w.state.clock k ∷ []
arming_effects late k w = []
arming_effects (wait m) k w = []

-- the triggers of moment t, in their order
abbrev pub due_effects : ℕ → World → List Effect
due_effects t w = map (λ e. effect_at w e.key e.load) (due t w.state.waiting)

-- the next moment, expiries first; and n moments, one after the other
unfoldable pub tick_effects : World → List Effect
tick_effects w = due_effects (suc w.state.clock) (expired (suc w.state.clock) w)

abbrev pub walk_effects : ℕ → World → List Effect
walk_effects zero w = []
walk_effects (suc n) w = walk_effects n w ++ tick_effects (walk n w)

-- a time field
abbrev pub on_setting_effects : Result Time Fault → World → List Effect
on_setting_effects (Err e) w = []
on_setting_effects (Ok Now) w = []
on_setting_effects (Ok (At t)) w = due_effects t (prepared t w)

abbrev pub read_to_effects : ℕ → World → List Effect
read_to_effects t w = cond (nat_le w.state.clock t) (walk_effects (t - w.state.clock) w) []

abbrev pub on_reading_effects : Result Time Fault → World → List Effect
on_reading_effects (Err e) w = []
on_reading_effects (Ok Now) w = []
on_reading_effects (Ok (At t)) w = read_to_effects t w

unfoldable pub setting_effects : World → List ℕ → List Effect
setting_effects w xs = cond (fits_memory w) (on_setting_effects (time_of xs) w) []

unfoldable pub reading_effects : World → List ℕ → List Effect
reading_effects w xs = cond (fits_memory w) (on_reading_effects (time_of xs) w) []

abbrev pub time_effects : World → List ℕ → List Effect
time_effects w xs = cond (w.state.clock == 0) (setting_effects w xs) (reading_effects w xs)

-- a header: an update and a changed header have what their trigger comes to, another image has none
abbrev pub amended_effects : ℕ → HeaderRecord → World → List Effect
amended_effects k h w =
    arming_effects (verdict w.state.clock h.trigger) k (recategorised h.category (number_in (slot_at w.state k)) w)

abbrev pub update_effects : World → HeaderRecord → List Effect
update_effects w h = on_some (first_slot (named h.name) w.state.slots) [] (λ k. amended_effects k h w)

abbrev pub changed_effects : World → ℕ → HeaderRecord → ℕ → List Effect
changed_effects w transport h k =
    cond (passed w.state.clock h.expire) [] (amended_effects k h (with_state (resent k transport w.state) w))

abbrev pub image_effects : World → ℕ → HeaderRecord → List Effect
image_effects w transport h =
    on_some (first_slot (versioned h.name (image_of h).version) w.state.slots) [] (λ k. cond (sent_under transport (slot_at w.state k)) [] (changed_effects w transport h k))

abbrev pub by_kind_effects : Kind → World → ℕ → HeaderRecord → List Effect
by_kind_effects Image w transport h = image_effects w transport h
by_kind_effects Update w transport h = update_effects w h

abbrev pub on_header_effects : Result HeaderRecord Fault → World → ℕ → List Effect
on_header_effects (Err e) w transport = []
on_header_effects (Ok h) w transport = by_kind_effects h.kind w transport h

unfoldable pub header_effects : World → ℕ → List ℕ → List Effect
header_effects w transport xs = cond (fits_memory w) (on_header_effects (header_of xs w.state.room) w transport) []

-- a segment: with the last one missing, what the slide's trigger comes to
abbrev pub filed_effects : ℕ → Object → World → List Effect
filed_effects k o w =
    arming_effects (verdict w.state.clock o.image.trigger) k (categorised o.image.category o.number (with_state (put k (held (slide_of o)) (vacate (named o.image.name) w.state)) w))

abbrev pub landing_effects : Landing → ℕ → Object → Segment → List ℕ → World → List Effect
landing_effects landings.Misfit k o g xs w = []
landing_effects landings.Again k o g xs w = []
landing_effects (landings.At at) k o g xs w =
    cond (complete (grown o.progress g)) (filed_effects k (with_progress o (grown o.progress g)) (received k o g at xs w)) []

unfoldable pub segment_effects : World → ℕ → ℕ → Bool → List ℕ → List Effect
segment_effects w transport n last xs =
    cond (fits_memory w) (on_some (first_slot (comes transport) w.state.slots) [] (λ k. on_arriving (slot_at w.state k) [] (λ o. landing_effects (landing o.progress (segment_of n last xs)) k o (segment_of n last xs) xs w))) []

-- a data group: those of the call that it asks
abbrev pub on_group_effects : Result Group Fault → World → List Effect
on_group_effects (Err e) w = []
on_group_effects (Ok (groups.header t xs)) w = header_effects w t xs
on_group_effects (Ok (groups.segment t n last xs)) w = segment_effects w t n last xs
on_group_effects (Ok groups.other) w = []

unfoldable pub group_effects : World → List ℕ → List Effect
group_effects w xs = cond (fits_memory w) (on_group_effects (group_of xs) w) []

-- a call, and a list of calls
unfoldable pub effects : World → Call → List Effect
effects w (header t xs) = header_effects w t xs
effects w (segment t n last xs) = segment_effects w t n last xs
effects w (group xs) = group_effects w xs
effects w (time xs) = time_effects w xs
effects w (find_name n) = []
effects w (next_place c) = []
effects w (body_of n) = []
effects w card = []
effects w (card_byte i) = []
effects w slot_size = []

abbrev pub all_effects : World → List Call → List Effect
all_effects w [] = []
all_effects w (c ∷ cs) = effects w c ++ all_effects (step w c).1 cs
