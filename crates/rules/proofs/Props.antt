-- Soundness is a fact: it holds in at most one way.
use Rattle.std.proofs.Common.{◌≡◌, ℕ, List, [], ◌∷◌, Some, None, Option, Ordering, sym, refl, ◌∙◌, arith}
use mathlib.Core.Path.{path_j}
use mathlib.Core.Bool.{Bool-set}
use mathlib.Core.HLevel.{×_prop, Unit-prop}
use native.Mathlib.Bridge.{le_prop}
use native.Mathlib.Nat.{ℕ_set}
use Rattle.rules.specs.Soundness.{Sound, SlotSound, PlacesApart}
use Rattle.rules.specs.Worlds.{State, slot_at}
use Rattle.shelf.specs.Laws.{Apart}
use Rattle.shelf.specs.Places.{Ascending}
use Rattle.shelf.specs.declared.entries.Entry.{Entry}
use Rattle.slots.specs.Slides.{Slot, free, arriving, held}
use Rattle.std.specs.List.{AllByRecursion}

-- nothing is nothing in one way
abbrev Only : {A : Type 0} (o : Option A) → None ≡ o → Type 0
Only None p = p ≡ refl
Only (Some x) p = Unit {0}

only : {A : Type 0} (o : Option A) (p : None ≡ o) → Only o p
only o p = path_j (λ x q. Only x q) refl p

none_prop : {A : Type 0} (o : Option A) → IsProp (o ≡ None)
none_prop None p q = only None p ∙ sym (only None q)
none_prop (Some x) p q = absurd (let z : ◌≡◌ {A = ℕ} 0 1 = cc in omega arith)

all_prop : {X : Type 0} (P : X → Type 0) → ((x : X) → IsProp (P x)) → (xs : List X) → IsProp (AllByRecursion P xs)
all_prop P h [] = Unit-prop
all_prop P h (x ∷ xs) = ×_prop (h x) (all_prop P h xs)

ascending_prop : {K : Type 0} (cmp : K → K → Ordering) (xs : List (Entry K)) → IsProp (Ascending cmp xs)
ascending_prop cmp [] = Unit-prop
ascending_prop cmp (x ∷ xs) = ×_prop (all_prop _ (λ y. Bool-set _ _) xs) (ascending_prop cmp xs)

apart_prop : {K : Type 0} (xs : List (Entry K)) → IsProp (Apart xs)
apart_prop [] = Unit-prop
apart_prop (x ∷ xs) = ×_prop (none_prop _) (apart_prop xs)

places_prop : (xs : List (Entry (ℕ × ℕ))) → IsProp (PlacesApart xs)
places_prop [] = Unit-prop
places_prop (x ∷ xs) = ×_prop (all_prop _ (λ y. Bool-set _ _) xs) (places_prop xs)

slot_prop : (c g r : ℕ) (x : Slot) → IsProp (SlotSound c g r x)
slot_prop c g r free u v i = tt
slot_prop c g r (arriving o) u v i = (
  le_prop u.0 v.0 i,
  le_prop u.1 v.1 i,
  le_prop u.2 v.2 i,
  le_prop u.3 v.3 i,
  ℕ_set _ _ u.4 v.4 i,
  Bool-set _ _ u.5 v.5 i,
)
slot_prop c g r (held x) u v i = (
  le_prop u.0 v.0 i,
  le_prop u.1 v.1 i,
  le_prop u.2 v.2 i,
  le_prop u.3 v.3 i,
  Bool-set _ _ u.4 v.4 i,
)

pub sound_prop : (s : State) → IsProp (Sound s)
sound_prop s u v i = record {
  twelve = ℕ_set _ _ u.twelve v.twelve i;
  round = le_prop u.round v.round i;
  slot_sound = λ k. slot_prop s.clock s.given s.room (slot_at s k) (u.slot_sound k) (v.slot_sound k) i;
  numbers_distinct = λ j k p q. ℕ_set _ _ (u.numbers_distinct j k p q) (v.numbers_distinct j k p q) i;
  names_distinct = λ j k x y p q r. ℕ_set _ _ (u.names_distinct j k x y p q r) (v.names_distinct j k x y p q r) i;
  waiting_ascends = ascending_prop _ s.waiting u.waiting_ascends v.waiting_ascends i;
  waiting_ahead = all_prop _ (λ e. le_prop) s.waiting u.waiting_ahead v.waiting_ahead i;
  waiting_held = all_prop _ (λ e. Bool-set _ _) s.waiting u.waiting_held v.waiting_held i;
  one_trigger_each = apart_prop s.waiting u.one_trigger_each v.one_trigger_each i;
  places_ascend = ascending_prop _ s.places u.places_ascend v.places_ascend i;
  places_apart = places_prop s.places u.places_apart v.places_apart i;
  places_held = all_prop _ (λ e. Bool-set _ _) s.places u.places_held v.places_held i;
  one_place_each = apart_prop s.places u.one_place_each v.one_place_each i;
}
