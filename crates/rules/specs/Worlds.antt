-- The receiver's state, body memory and display, and what befalls them.
use Rattle.std.specs.Prelude.{ℕ, ◌*◌, Bool, false, cond, not, ◌&&◌, ◌||◌, List, [], ◌∷◌, map, length, Some, None, filter, Option, ◌==◌, slice_index_or, slice_set}
use Rattle.display.specs.Meaning.{Meaning, showed}
use Rattle.header.specs.declared.kinds.Category.{Category}
use Rattle.rules.specs.Triggers.{Verdict, nothing, effect, late, wait, Effect}
use Rattle.shelf.specs.Kinds.{by_moment, by_place}
use Rattle.shelf.specs.Places.{shelved}
use Rattle.shelf.specs.declared.entries.Entry.{Entry}
use Rattle.slots.specs.Pieces.{part}
use Rattle.slots.specs.Slides.{Slot, free, numbered, number_in, size_in}

-- the clock (0 until it is set), how many accession numbers were given, the slot given last, the slot size, the twelve slots,
-- the waiting triggers (a moment with its slot) and the category places (category and slide with an accession number)
pub record State : Type 0 where
  pub clock : ℕ
  pub given : ℕ
  pub recent : ℕ
  pub room : ℕ
  pub slots : List Slot
  pub waiting : List (Entry ℕ)
  pub places : List (Entry (ℕ × ℕ))

-- slot k has the part of body memory that begins at k × room
pub record World : Type 0 where
  pub state : State
  pub memory : List ℕ
  pub display : Meaning

abbrev pub slot_at : State → ℕ → Slot
slot_at s k = slice_index_or s.slots k free

-- the held body in slot k
abbrev pub body_at : World → ℕ → List ℕ
body_at w k = part (k * w.state.room) (size_in (slot_at w.state k)) w.memory

-- body memory has room for twelve slots
abbrev pub fits_memory : World → Bool
fits_memory w = length w.memory == 12 * w.state.room

-- the state with other slots, waiting triggers and places
abbrev pub holding : List Slot → List (Entry ℕ) → List (Entry (ℕ × ℕ)) → State → State
holding xs ws ps s =
    record { clock = s.clock; given = s.given; recent = s.recent; room = s.room; slots = xs; waiting = ws; places = ps }

abbrev pub with_state : State → World → World
with_state s w = record { state = s; memory = w.memory; display = w.display }

-- some slot passes the test
abbrev pub any : (Slot → Bool) → List Slot → Bool
any test [] = false
any test (x ∷ xs) = test x || any test xs

-- the slots that pass the test are freed; their waiting triggers and their category places go along
abbrev pub vacate : (Slot → Bool) → State → State
vacate test s =
    holding (map (λ x. cond (test x) free x) s.slots) (filter (λ e. not (test (slot_at s e.load))) s.waiting) (filter (λ e. not (any (λ x. test x && numbered e.load x) s.slots)) s.places) s

-- the waiting triggers but that of slot k
abbrev pub undone : ℕ → State → List (Entry ℕ)
undone k s = filter (λ e. not (e.load == k)) s.waiting

-- slot k comes to hold x; what it held leaves, with its waiting trigger and its category place
abbrev pub replaced : ℕ → Slot → State → State
replaced k x s =
    holding (slice_set s.slots k x) (undone k s) (filter (λ e. not (numbered e.load (slot_at s k))) s.places) s

-- shows, one after the other
abbrev pub show_all : Meaning → List Effect → Meaning
show_all m [] = m
show_all m (x ∷ xs) = show_all (showed m x.number x.moment x.body) xs

-- the slide in slot k, at moment m
abbrev pub effect_at : World → ℕ → ℕ → Effect
effect_at w m k = record { number = number_in (slot_at w.state k); moment = m; body = body_at w k }

-- the triggers of moment t
abbrev pub due : ℕ → List (Entry ℕ) → List (Entry ℕ)
due t ws = filter (λ e. e.key == t) ws

-- the clock comes to t, and the triggers of that moment take effect in their order
abbrev pub fire : ℕ → World → World
fire t w =
    record { state = record { clock = t; given = w.state.given; recent = w.state.recent; room = w.state.room; slots = w.state.slots; waiting = filter (λ e. not (e.key == t)) w.state.waiting; places = w.state.places }; memory = w.memory; display = show_all w.display (map (λ e. effect_at w e.key e.load) (due t w.state.waiting)) }

-- a trigger is armed for the slide in slot k; that undoes its waiting one
abbrev pub armed : Verdict → ℕ → World → World
armed nothing k w = w
armed late k w = with_state (holding w.state.slots (undone k w.state) w.state.places w.state) w
armed effect k w =
    record { state = holding w.state.slots (undone k w.state) w.state.places w.state; memory = w.memory; display = show_all w.display (effect_at w w.state.clock k ∷ []) }
armed (wait m) k w =
    with_state (holding w.state.slots (shelved by_moment (record { key = m; load = k }) (undone k w.state)) w.state.places w.state) w

-- the places with the slide n in a category, which it takes from any other slide, or in none
abbrev pub in_category : Option Category → ℕ → List (Entry (ℕ × ℕ)) → List (Entry (ℕ × ℕ))
in_category None n ps = filter (λ e. not (e.load == n)) ps
in_category (Some c) n ps =
    shelved by_place (record { key = (c.category, c.slide); load = n }) (filter (λ e. not (e.load == n || (e.key.0 == c.category && e.key.1 == c.slide))) ps)

abbrev pub categorised : Option Category → ℕ → World → World
categorised c n w = with_state (holding w.state.slots w.state.waiting (in_category c n w.state.places) w.state) w
