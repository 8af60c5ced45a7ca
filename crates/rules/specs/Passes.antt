-- A reading in one pass over what waits: what a program does in place of going moment by moment.
use Rattle.std.specs.Prelude.{ℕ, Bool, not, ◌&&◌, map, filter, nat_le}
use Rattle.rules.specs.Triggers.{Effect}
use Rattle.rules.specs.Worlds.{State, World, slot_at, holding, vacate, effect_at, show_all}
use Rattle.shelf.specs.declared.entries.Entry.{Entry}
use Rattle.slots.specs.Slides.{ends}

-- the slide that a trigger waits for has expired by t
abbrev pub gone : State → ℕ → Entry ℕ → Bool
gone s t e = ends t (slot_at s e.load)

-- a trigger that takes effect by t: its moment has come, and its slide had not expired by then
abbrev pub seen : State → ℕ → Entry ℕ → Bool
seen s t e = nat_le e.key t && not (gone s e.key e)

abbrev pub shot : World → Entry ℕ → Effect
shot w e = effect_at w e.key e.load

-- the triggers up to t are off the list
abbrev pub undue : ℕ → State → State
undue t s = holding s.slots (filter (λ e. not (nat_le e.key t)) s.waiting) s.places s

-- the state at another clock
abbrev pub at_clock : ℕ → State → State
at_clock t s =
    record { clock = t; given = s.given; recent = s.recent; room = s.room; slots = s.slots; waiting = s.waiting; places = s.places }

-- shown is what takes effect by t, in order; then what has expired by t goes
abbrev pub passed_to : ℕ → World → World
passed_to t w =
    record { state = at_clock t (vacate (ends t) (undue t w.state)); memory = w.memory; display = show_all w.display (map (shot w) (filter (seen w.state t) w.state.waiting)) }
