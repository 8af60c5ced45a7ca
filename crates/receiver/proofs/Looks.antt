-- What is seen of a slot by its index, and where no slot passes a test.
use Rattle.std.proofs.Common.{◌≡◌, ℕ, suc, Bool, true, false, cond, not, ◌&&◌, ◌||◌, List, [], ◌∷◌, is_some, Some, None, Option, sym, refl, ap, ◌∙◌, arith}
use Rattle.rules.proofs.Passes.{kept_all, freed_none, slot_false, every, any_none}
use Rattle.rules.specs.Worlds.{State, slot_at, any, vacate}
use Rattle.slots.specs.Searches.{first_from, first_slot}
use Rattle.slots.specs.Contents.{slide_held}
use Rattle.slots.specs.Seen.{index_of}
use Rattle.slots.specs.declared.indices.SlotIndex.{SlotIndex}
use Rattle.slots.specs.Slides as slides
use Rattle.slots.specs.Slides.{free, numbered}
use Rattle.std.specs.List.{AllByRecursion}
use Rattle.rules.proofs.Moments.{all_mono}

-- a search finds something where some slot passes
pub found_any : (test : slides.Slot → Bool) (i : ℕ) (xs : List slides.Slot) → is_some (first_from test i xs) ≡ any test xs
found_any test i [] = refl
found_any test i (x ∷ xs) = go (test x) (found_any test (suc i) xs)
  where
    go : (b : Bool) → is_some (first_from test (suc i) xs) ≡ any test xs → is_some (cond b (Some i) (first_from test (suc i) xs)) ≡ (b || any test xs)
    go true e = refl
    go false e = e

pub none_passes : (test : slides.Slot → Bool) (i : ℕ) (xs : List slides.Slot) → first_from test i xs ≡ None → AllByRecursion (λ x. test x ≡ false) xs
none_passes test i [] h = tt
none_passes test i (x ∷ xs) h = go (test x) refl h (none_passes test (suc i) xs)
  where
    go : (b : Bool) → test x ≡ b → cond b (Some i) (first_from test (suc i) xs) ≡ None → (first_from test (suc i) xs ≡ None → AllByRecursion (λ y. test y ≡ false) xs) → AllByRecursion (λ y. test y ≡ false) (x ∷ xs)
    go true e q ih = let z : ◌≡◌ {A = ℕ} 0 1 = cc in absurd (omega arith)
    go false e q ih = (e, ih q)

not_some : {X : Type 0} (o : Option X) → is_some o ≡ false → o ≡ None
not_some None e = refl
not_some (Some x) e = let z : ◌≡◌ {A = ℕ} 0 1 = cc in absurd (omega arith)

not_twice : (b : Bool) → not (not b) ≡ b
not_twice true = refl
not_twice false = refl

pub turned : (a b : Bool) → a ≡ not b → b ≡ not a
turned a b e = sym (not_twice b) ∙ ap not (sym e)

-- a slot is found where its index is
pub index_some : (o : Option SlotIndex) → is_some (index_of o) ≡ is_some o
index_some None = refl
index_some (Some k) = refl

-- a slot that holds no slide has no slide's number
pub not_numbered : (z : slides.Slot) → None ≡ slide_held z → (n : ℕ) → numbered n z ≡ false
not_numbered free e n = refl
not_numbered (slides.arriving o) e n = refl
not_numbered (slides.held x) e n = let q : ◌≡◌ {A = ℕ} 0 1 = cc in absurd (omega arith)

-- where no slot passes, nothing leaves
pub none_leaves : (test : slides.Slot → Bool) → test free ≡ false → (s : State) → is_some (first_slot test s.slots) ≡ false → vacate test s ≡ s
none_leaves test at-free s none =
    let h : AllByRecursion (λ x. test x ≡ false) s.slots = none_passes test 0 s.slots (not_some (first_slot test s.slots) none) in
    λ i. record {
      clock = s.clock;
      given = s.given;
      recent = s.recent;
      room = s.room;
      slots = freed_none test s.slots h i;
      waiting = kept_all (λ e. not (test (slot_at s e.load))) s.waiting (every (λ e. not (test (slot_at s e.load)) ≡ true) (λ e. ap not (slot_false test at-free s.slots h e.load)) s.waiting) i;
      places = kept_all (λ e. not (any (λ x. test x && numbered e.load x) s.slots)) s.places (every (λ e. not (any (λ x. test x && numbered e.load x) s.slots) ≡ true) (λ e. ap not (any_none (λ x. test x && numbered e.load x) s.slots (all_mono (λ x. test x ≡ false) (λ x. (test x && numbered e.load x) ≡ false) (λ x q. ap (λ b. b && numbered e.load x) q) s.slots h))) s.places) i;
    }
