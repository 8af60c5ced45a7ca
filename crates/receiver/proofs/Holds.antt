-- A slot whose object is complete comes to hold its slide.
use Rattle.std.proofs.Common.{◌≡◌, ℕ, zero, suc, ◌<◌, Bool, true, false, cond, not, ◌&&◌, ◌||◌, ◌⊎◌, List, [], ◌∷◌, map, length, get_or, set, sym, refl, ap, ◌∙◌, inl, inr, arith, set-set}
use Rattle.receiver.specs.Arrivals.{more}
use Rattle.rules.proofs.Passes.{kept_same, getD_vacate}
use Rattle.rules.proofs.Sounds.{at_set, sound_vacate, sound_received, sound_filed, arriving_within}
use Rattle.rules.specs.Assembly.{put}
use Rattle.rules.specs.Soundness.{Sound}
use Rattle.rules.specs.Worlds.{State, slot_at, any, vacate, holding}
use Rattle.slots.specs.Segments.{complete, landing, after_landing, after_segment}
use Rattle.slots.specs.Slides as slides
use Rattle.slots.specs.Slides.{Slot, Object, free, arriving, held, named, numbered, slide_of, filed_if, moved}
use Rattle.slots.specs.declared.progress.Landing.{Landing}
use Rattle.slots.specs.declared.progress.Landing.TheVariants.{Misfit, Again, At}
use Rattle.slots.specs.declared.progress.Progress.{Progress}
use Rattle.slots.specs.declared.progress.Segment.{Segment}
use Rattle.std.proofs.lemmas.List.{get_or-set_same}
use lib.Seq.{map-set}

-- a write among slots that fail the test changes no search
any_same : (p : Slot → Bool) (xs : List Slot) (k : ℕ) (x : Slot) → k < length xs → p x ≡ false → p (get_or xs k free) ≡ false → any p (set xs k x) ≡ any p xs
any_same p [] k x h a b = refl
any_same p (y ∷ ys) zero x h a b = ap (λ c. c || any p ys) (a ∙ sym b)
any_same p (y ∷ ys) (suc k) x h a b = ap (λ c. p y || c) (any_same p ys k x (omega arith) a b)

at_same : (p : Slot → Bool) (xs : List Slot) (k : ℕ) (x : Slot) → k < length xs → p x ≡ false → p (get_or xs k free) ≡ false → (j : ℕ) → p (get_or (set xs k x) j free) ≡ p (get_or xs j free)
at_same p xs k x h a b j = go (at_set xs k x h j)
  where
    go : ((j ≡ k) × (get_or (set xs k x) j free ≡ x)) ⊎ ((j ≡ k → ⊥) × (get_or (set xs k x) j free ≡ get_or xs j free)) → p (get_or (set xs k x) j free) ≡ p (get_or xs j free)
    go (inl e) = ap p e.1 ∙ (a ∙ sym (ap (λ i. p (get_or xs i free)) e.0 ∙ b))
    go (inr e) = ap p e.1

-- what leaves does not depend on a slot that fails the test either way, once that slot is written over
pub vacate_put : (test : Slot → Bool) (s : State) (k : ℕ) (x y : Slot) → k < length s.slots → test x ≡ false → test (slot_at s k) ≡ false → put k y (vacate test (put k x s)) ≡ put k y (vacate test s)
vacate_put test s k x y h a b =
    let xs = s.slots in
    let f : Slot → Slot = λ z. cond (test z) free z in
    let both : ℕ → Slot → Bool = λ n z. test z && numbered n z in
    λ i. record {
      clock = s.clock;
      given = s.given;
      recent = s.recent;
      room = s.room;
      slots = (ap (λ zs. set zs k y) (map-set f xs k x) ∙ set-set (map f xs) k (f x) y) i;
      waiting = kept_same (λ e. not (test (get_or (set xs k x) e.load free))) (λ e. not (test (get_or xs e.load free))) (λ e. ap not (at_same test xs k x h a b e.load)) s.waiting i;
      places = kept_same (λ e. not (any (both e.load) (set xs k x))) (λ e. not (any (both e.load) xs)) (λ e. ap not (any_same (both e.load) xs k x h (ap (λ c. c && numbered e.load x) a) (ap (λ c. c && numbered e.load (slot_at s k)) b))) s.places i;
    }

-- a segment leaves an object's size
size_after : (l : Landing) (p : Progress) (g : Segment) → (after_landing l p g).size ≡ p.size
size_after Misfit p g = refl
size_after Again p g = refl
size_after (At at) p g = refl

-- a complete object moves to its slide, another goes on arriving
moved_held : (o : Object) (g : Segment) → complete (after_segment o.progress g) ≡ true → moved (slides.segment g) (arriving o) ≡ held (slide_of (more o g))
moved_held o g c = ap (λ b. filed_if b (more o g)) c

pub moved_on : (o : Object) (g : Segment) → complete (after_segment o.progress g) ≡ false → moved (slides.segment g) (arriving o) ≡ arriving (more o g)
moved_on o g c = ap (λ b. filed_if b (more o g)) c

module _ (s : State) (k : ℕ) (o : Object) (g : Segment) (i : slot_at s k ≡ arriving o) (lt : k < length s.slots) where
  -- the slot with the segment, and then the slide
  abbrev arrived : State
  arrived = put k (arriving (more o g)) s

  abbrev filed_state : State
  filed_state = put k (held (slide_of (more o g))) (vacate (named o.image.name) arrived)

  still_arriving : slot_at (vacate (named o.image.name) s) k ≡ arriving o
  still_arriving = getD_vacate (named o.image.name) s.slots k ∙ ap (λ z. cond (named o.image.name z) free z) i

  held_next : put k (held (slide_of (more o g))) (vacate (named o.image.name) s) ≡ filed_state
  held_next =
      sym (vacate_put (named o.image.name) s k (arriving (more o g)) (held (slide_of (more o g))) lt refl (ap (named o.image.name) i))

  -- so the slot is freed of the held slide of that name, and then comes to hold the new one
  pub held_by : (v : State) (xs : List Slot) → v ≡ vacate (named o.image.name) s → complete (after_segment o.progress g) ≡ true → xs ≡ set v.slots k (moved (slides.segment g) (slot_at v k)) → holding xs v.waiting v.places v ≡ filed_state
  held_by v xs e c q =
      ap (λ zs. holding zs v.waiting v.places v) q
      ∙ (ap (λ u. put k (moved (slides.segment g) (slot_at u k)) u) e
      ∙ (ap (λ z. put k (moved (slides.segment g) z) (vacate (named o.image.name) s)) still_arriving
      ∙ (ap (λ z. put k z (vacate (named o.image.name) s)) (moved_held o g c)
      ∙ held_next)))

  module _ (h : Sound s) where
    pub sound_arrived : Sound arrived
    sound_arrived = sound_received s k o i h (after_segment o.progress g) (size_after (landing o.progress g) o.progress g)

    pub sound_next : Sound filed_state
    sound_next = sound_filed k (more o g) arrived (get_or-set_same s.slots k (arriving (more o g)) free lt) sound_arrived

    pub slot_next : slot_at filed_state k ≡ held (slide_of (more o g))
    slot_next =
        get_or-set_same (vacate (named o.image.name) arrived).slots k (held (slide_of (more o g))) free (omega (arith, (sound_vacate (named o.image.name) arrived sound_arrived).twelve, arriving_within s k o i h))
