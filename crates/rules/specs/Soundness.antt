-- What holds of a receiver's state after every call.
use Rattle.std.specs.Prelude.{◌≡◌, ℕ, ◌<◌, ◌≤◌, Bool, true, false, ◌&&◌, List, [], ◌∷◌, length, ◌==◌}
use Rattle.rules.specs.Headers.{is_held}
use Rattle.rules.specs.Worlds.{State, slot_at, any}
use Rattle.shelf.specs.Kinds.{by_moment, by_place}
use Rattle.shelf.specs.Laws.{Apart}
use Rattle.shelf.specs.Places.{Ascending}
use Rattle.shelf.specs.declared.entries.Entry.{Entry}
use Rattle.slots.specs.Slides.{Slot, free, arriving, held, Slide, passed, numbered, number_in}
use Rattle.std.specs.List.{AllByRecursion}

-- what a slot holds has a number that was given and a body that fits, and has not expired
abbrev pub SlotSound : ℕ → ℕ → ℕ → Slot → Type 0
SlotSound clock given room free = Unit {0}
SlotSound clock given room (arriving o) =
    (0 < o.number) × (o.number ≤ given) × (0 < o.image.size) × (o.image.size ≤ room) × (o.progress.size ≡ o.image.size) × (passed clock o.image.expire ≡ false)
SlotSound clock given room (held x) =
    (0 < x.number) × (x.number ≤ given) × (0 < x.size) × (x.size ≤ room) × (passed clock x.expire ≡ false)

abbrev pub same_place : ℕ × ℕ → ℕ × ℕ → Bool
same_place a b = a.0 == b.0 && a.1 == b.1

-- no two entries have one category place
abbrev pub PlacesApart : List (Entry (ℕ × ℕ)) → Type 0
PlacesApart [] = Unit {0}
PlacesApart (e ∷ es) = AllByRecursion (λ d. same_place e.key d.key ≡ false) es × PlacesApart es

pub record Sound (s : State) : Type 0 where
  pub twelve : length s.slots ≡ 12
  pub round : s.recent < 12
  pub slot_sound : (k : ℕ) → SlotSound s.clock s.given s.room (slot_at s k)
  pub numbers_distinct : (j k : ℕ) → 0 < number_in (slot_at s j) → number_in (slot_at s j) ≡ number_in (slot_at s k) → j ≡ k
  pub names_distinct : (j k : ℕ) (x y : Slide) → slot_at s j ≡ held x → slot_at s k ≡ held y → x.name ≡ y.name → j ≡ k
  -- waiting triggers ascend and lie above the clock, each for a held slide, and a slide has at most one
  pub waiting_ascends : Ascending by_moment s.waiting
  pub waiting_ahead : AllByRecursion (λ (e : Entry ℕ). s.clock < e.key) s.waiting
  pub waiting_held : AllByRecursion (λ (e : Entry ℕ). is_held (slot_at s e.load) ≡ true) s.waiting
  pub one_trigger_each : Apart s.waiting
  -- category places ascend, no two are the same, each is for a held slide, and a slide has at most one
  pub places_ascend : Ascending by_place s.places
  pub places_apart : PlacesApart s.places
  pub places_held : AllByRecursion (λ (e : Entry (ℕ × ℕ)). any (numbered e.load) s.slots ≡ true) s.places
  pub one_place_each : Apart s.places
