-- The slide that an update or a changed header is for is held, and a held slide is found by its own number.
use Rattle.std.proofs.Common.{◌≡◌, ℕ, true, cond, Some, refl, ap, ◌∙◌}
use Rattle.header.specs.Names.{NameRecord}
use Rattle.rules.proofs.Filters.{any_at}
use Rattle.rules.proofs.Kept.{held_named, held_versioned}
use Rattle.rules.proofs.Passes.{getD_vacate}
use Rattle.rules.specs.Headers.{is_held}
use Rattle.rules.specs.Worlds.{State, slot_at, any, vacate}
use Rattle.slots.specs.Searches.{first_slot}
use Rattle.slots.specs.Slides.{Slide, free, held, comes, named, versioned, numbered, number_in}
use Rattle.std.proofs.lemmas.Bool.{eq-eqb}

-- a held slide is found by its own number
pub held_number : (s : State) (k : ℕ) (x : Slide) → slot_at s k ≡ held x → any (numbered (number_in (slot_at s k))) s.slots ≡ true
held_number s k x i =
    any_at (numbered (number_in (slot_at s k))) refl s.slots k (ap (λ z. numbered (number_in z) z) i ∙ eq-eqb x.number x.number refl)

-- the slot found for a name holds its slide
pub named_held : (s : State) (a : NameRecord) (k : ℕ) → first_slot (named a) s.slots ≡ Some k → is_held (slot_at s k) ≡ true
named_held s a k e = let (x, i) = held_named s a k e in ap is_held i

-- and so does that for a name and version, also once an object that arrives is dropped
pub versioned_held : (s : State) (a : NameRecord) (v k t : ℕ) → first_slot (versioned a v) s.slots ≡ Some k → (is_held (slot_at s k) ≡ true) × (is_held (slot_at (vacate (comes t) s) k) ≡ true)
versioned_held s a v k t e =
    let (x, i) = held_versioned s a v k e in
    (ap is_held i, ap is_held (getD_vacate (comes t) s.slots k ∙ ap (λ z. cond (comes t z) free z) i))
