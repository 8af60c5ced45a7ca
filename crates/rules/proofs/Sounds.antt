-- Everything that befalls a state keeps it sound.
use Rattle.std.proofs.Common.{◌≡◌, ℕ, zero, suc, ◌<◌, ◌≤◌, Bool, true, false, cond, not, ◌&&◌, ◌||◌, eqb, leb, ◌⊎◌, List, [], ◌∷◌, map, length, get_or, set, Some, None, filter, Option, sym, refl, ap, ◌∙◌, subst, subst₂, inl, inr, arith}
use Rattle.header.proofs.Equal.{same_decides}
use Rattle.header.specs.Names.{NameRecord, same_name}
use Rattle.header.specs.declared.kinds.Category.{Category}
use Rattle.rules.specs.Assembly.{put}
use Rattle.rules.specs.Clocks.{prepared, expired, tick, walk}
use Rattle.rules.specs.Headers.{is_held, with_transport, resent, begun}
use Rattle.rules.specs.Soundness.{Sound, SlotSound, same_place, PlacesApart}
use Rattle.rules.specs.Triggers.{Verdict, nothing, effect, late, wait}
use Rattle.rules.specs.Worlds.{State, World, slot_at, any, holding, vacate, fire, armed, categorised}
use Rattle.shelf.proofs.Chosen.{ascending_kept}
use Rattle.shelf.proofs.Found.{apart_shelved}
use Rattle.shelf.proofs.Keys.{later}
use Rattle.shelf.proofs.Ordered.{ascending_shelved, all_shelved}
use Rattle.shelf.specs.Kinds.{by_moment, by_place}
use Rattle.shelf.specs.Laws.{Apart}
use Rattle.shelf.specs.Places.{Ascending, above}
use Rattle.shelf.specs.declared.entries.Entry.{Entry}
use Rattle.slots.specs.Slides as slides
use Rattle.slots.specs.Slides.{Slot, free, arriving, held, Object, Slide, arrival, slide_of, with_progress, resent_slide, moved, comes, named, numbered, number_in, ends, passed}
use Rattle.slots.specs.declared.progress.Progress.{Progress}
use Rattle.std.proofs.lemmas.List.{length-map, length-set, get_or-set_same, get_or-set_other}
use Rattle.std.proofs.lemmas.Bool.{cond-false, cases_eq, both_ways, eqb-false, eq-eqb, leb-true, not-true, or_parts, ltb-false}
use Rattle.std.specs.Cmp.{nat_cmp_total, then_total, on_total}
use Rattle.std.specs.List.{AllByRecursion}
use Rattle.rules.proofs.Filters.{all_kept, kept_pass, apart_kept, none_carries, places_apart_kept, places_apart_shelved, same_place_turned, any_freed, any_set, any_same, any_at}
use Rattle.rules.proofs.Moments.{all_mono}
use Rattle.rules.proofs.Passes.{getD_vacate, Ready}
use Rattle.rules.specs.Laws.{NeverFalls}

-- a slot that was held after a vacation was held before
from_freed : (b : Bool) (z : Slot) (x : Slide) → cond b free z ≡ held x → (b ≡ false) × (z ≡ held x)
from_freed true z x e = absurd (let q : ◌≡◌ {A = ℕ} 0 1 = cc in omega arith)
from_freed false z x e = (refl, e)

pub freed : (b : Bool) (x : Slot) (P : Slot → Type 0) → P free → P x → P (cond b free x)
freed true x P h i = h
freed false x P h i = i

-- the laws of the waiting triggers, and of the places
pub record Waits (c : ℕ) (xs : List Slot) (ws : List (Entry ℕ)) : Type 0 where
  pub ascends : Ascending by_moment ws
  pub ahead : AllByRecursion (λ (e : Entry ℕ). c < e.key) ws
  pub for_held : AllByRecursion (λ (e : Entry ℕ). is_held (get_or xs e.load free) ≡ true) ws
  pub one_each : Apart ws

pub record Files (xs : List Slot) (ps : List (Entry (ℕ × ℕ))) : Type 0 where
  pub ascend : Ascending by_place ps
  pub apart : PlacesApart ps
  pub for_held : AllByRecursion (λ (e : Entry (ℕ × ℕ)). any (numbered e.load) xs ≡ true) ps
  pub one_each : Apart ps

pub waits_of : (s : State) → Sound s → Waits s.clock s.slots s.waiting
waits_of s h = record { ascends = h.waiting_ascends; ahead = h.waiting_ahead; for_held = h.waiting_held; one_each = h.one_trigger_each }

pub files_of : (s : State) → Sound s → Files s.slots s.places
files_of s h = record { ascend = h.places_ascend; apart = h.places_apart; for_held = h.places_held; one_each = h.one_place_each }

-- a filter, with other slots and another clock
waits_kept : (p : Entry ℕ → Bool) (c c' : ℕ) (xs xs' : List Slot) (ws : List (Entry ℕ)) → ((e : Entry ℕ) → c < e.key → p e ≡ true → c' < e.key) → ((e : Entry ℕ) → is_held (get_or xs e.load free) ≡ true → p e ≡ true → is_held (get_or xs' e.load free) ≡ true) → Waits c xs ws → Waits c' xs' (filter p ws)
waits_kept p c c' xs xs' ws i j h = record {
  ascends = ascending_kept by_moment p ws h.ascends;
  ahead = all_kept p (λ e. c < e.key) (λ e. c' < e.key) i ws h.ahead;
  for_held = all_kept p (λ e. is_held (get_or xs e.load free) ≡ true) (λ e. is_held (get_or xs' e.load free) ≡ true) j ws h.for_held;
  one_each = apart_kept p ws h.one_each;
}

files_kept : (p : Entry (ℕ × ℕ) → Bool) (xs xs' : List Slot) (ps : List (Entry (ℕ × ℕ))) → ((e : Entry (ℕ × ℕ)) → any (numbered e.load) xs ≡ true → p e ≡ true → any (numbered e.load) xs' ≡ true) → Files xs ps → Files xs' (filter p ps)
files_kept p xs xs' ps i h = record {
  ascend = ascending_kept by_place p ps h.ascend;
  apart = places_apart_kept p ps h.apart;
  for_held = all_kept p (λ e. any (numbered e.load) xs ≡ true) (λ e. any (numbered e.load) xs' ≡ true) i ps h.for_held;
  one_each = apart_kept p ps h.one_each;
}

-- the slots stay, with other waiting triggers and places
pub sound_holding : (s : State) (ws : List (Entry ℕ)) (ps : List (Entry (ℕ × ℕ))) → Sound s → Waits s.clock s.slots ws → Files s.slots ps → Sound (holding s.slots ws ps s)
sound_holding s ws ps h i j = record {
  twelve = h.twelve;
  round = h.round;
  slot_sound = h.slot_sound;
  numbers_distinct = h.numbers_distinct;
  names_distinct = h.names_distinct;
  waiting_ascends = i.ascends;
  waiting_ahead = i.ahead;
  waiting_held = i.for_held;
  one_trigger_each = i.one_each;
  places_ascend = j.ascend;
  places_apart = j.apart;
  places_held = j.for_held;
  one_place_each = j.one_each;
}

pub sound_filtered : (p : Entry ℕ → Bool) (s : State) → Sound s → Sound (holding s.slots (filter p s.waiting) s.places s)
sound_filtered p s h =
    sound_holding s _ _ h (waits_kept p s.clock s.clock s.slots s.slots s.waiting (λ e i t. i) (λ e i t. i) (waits_of s h)) (files_of s h)

-- slots that pass a test are freed
pub sound_vacate : (test : Slot → Bool) (s : State) → Sound s → Sound (vacate test s)
sound_vacate test s h =
    let xs : List Slot = map (λ x. cond (test x) free x) s.slots in
    let at : (k : ℕ) → get_or xs k free ≡ cond (test (slot_at s k)) free (slot_at s k) = getD_vacate test s.slots in
    let ws = waits_kept (λ e. not (test (slot_at s e.load))) s.clock s.clock s.slots xs s.waiting (λ e i t. i)
    (λ e i t. ap is_held (at e.load ∙ cond-false (test (slot_at s e.load)) free (slot_at s e.load) (not-true (test (slot_at s e.load)) t)) ∙ i) (waits_of s h) in
    let ps = files_kept (λ e. not (any (λ x. test x && numbered e.load x) s.slots)) s.slots xs s.places
    (λ e i t. any_freed test e.load s.slots i (not-true _ t)) (files_of s h) in
    record {
      twelve = length-map s.slots (λ x. cond (test x) free x) ∙ h.twelve;
      round = h.round;
      slot_sound = λ k. rw (at k) (freed (test (slot_at s k)) (slot_at s k) (SlotSound s.clock s.given s.room) tt (h.slot_sound k));
      numbers_distinct = λ j k.
          rw (at j, at k)
          (freed (test (slot_at s j)) (slot_at s j) (λ x. 0 < number_in x → number_in x ≡ number_in (cond (test (slot_at s k)) free (slot_at s k)) → j ≡ k) (λ z e. absurd (omega arith))
          (freed (test (slot_at s k)) (slot_at s k) (λ x. 0 < number_in (slot_at s j) → number_in (slot_at s j) ≡ number_in x → j ≡ k) (λ z e. absurd (omega arith)) (h.numbers_distinct j k)));
      names_distinct = λ j k x y e d n.
          h.names_distinct j k x y (from_freed (test (slot_at s j)) (slot_at s j) x (sym (at j) ∙ e)).1 (from_freed (test (slot_at s k)) (slot_at s k) y (sym (at k) ∙ d)).1 n;
      waiting_ascends = ws.ascends;
      waiting_ahead = ws.ahead;
      waiting_held = ws.for_held;
      one_trigger_each = ws.one_each;
      places_ascend = ps.ascend;
      places_apart = ps.apart;
      places_held = ps.for_held;
      one_place_each = ps.one_each;
    }

more_given : (c g g' S : ℕ) (x : Slot) → g ≤ g' → SlotSound c g S x → SlotSound c g' S x
more_given c g g' S free le h = tt
more_given c g g' S (arriving o) le h = (h.0, omega (arith, h.1), h.2, h.3, h.4, h.5)
more_given c g g' S (held x) le h = (h.0, omega (arith, h.1), h.2, h.3, h.4)

-- slot k comes to hold x
abbrev pub placed_state : ℕ → Slot → ℕ → ℕ → List (Entry ℕ) → List (Entry (ℕ × ℕ)) → State → State
placed_state k x g r ws ps s =
    record { clock = s.clock; given = g; recent = r; room = s.room; slots = set s.slots k x; waiting = ws; places = ps }

pub at_set : (xs : List Slot) (k : ℕ) (x : Slot) → k < length xs → (j : ℕ) → ((j ≡ k) × (get_or (set xs k x) j free ≡ x)) ⊎ ((j ≡ k → ⊥) × (get_or (set xs k x) j free ≡ get_or xs j free))
at_set xs k x lt j = go (cases_eq j k)
  where
    go : (j ≡ k) ⊎ (j ≡ k → ⊥) → ((j ≡ k) × (get_or (set xs k x) j free ≡ x)) ⊎ ((j ≡ k → ⊥) × (get_or (set xs k x) j free ≡ get_or xs j free))
    go (inl e) = inl (e, ap (λ i. get_or (set xs k x) i free) e ∙ get_or-set_same xs k x free lt)
    go (inr d) = inr (d, get_or-set_other xs k j x free d)

sound_placed : (s : State) (k : ℕ) (x : Slot) (g r : ℕ) (ws : List (Entry ℕ)) (ps : List (Entry (ℕ × ℕ))) → Sound s → k < 12 → r < 12 → s.given ≤ g → SlotSound s.clock g s.room x → ((j : ℕ) → (j ≡ k → ⊥) → number_in (slot_at s j) ≡ number_in x → ⊥) → ((j : ℕ) (y z : Slide) → (j ≡ k → ⊥) → slot_at s j ≡ held y → x ≡ held z → y.name ≡ z.name → ⊥) → Waits s.clock (set s.slots k x) ws → Files (set s.slots k x) ps → Sound (placed_state k x g r ws ps s)
sound_placed s k x g r ws ps h lt lr le ok own names i j =
    let within : k < length s.slots = omega (arith, h.twelve) in
    let at = at_set s.slots k x within in
    record {
      twelve = length-set s.slots k x ∙ h.twelve;
      round = lr;
      slot_sound = λ n.
          elim (at n) [
            | inl t ↦ rw t.1 ok
            | inr t ↦ rw t.1 (more_given s.clock s.given g s.room (slot_at s n) le (h.slot_sound n))
          ];
      numbers_distinct = λ a b.
          let P : Slot → Slot → Type 0 = λ z z'. 0 < number_in z → number_in z ≡ number_in z' → a ≡ b in
          elim (at a) [
            | inl t ↦
                elim (at b) [
                  | inl u ↦ λ z e. t.0 ∙ sym u.0
                  | inr u ↦ subst₂ P (sym t.1) (sym u.1) (λ z e. absurd (own b u.0 (sym e)))
                ]
            | inr t ↦
                elim (at b) [
                  | inl u ↦ subst₂ P (sym t.1) (sym u.1) (λ z e. absurd (own a t.0 e))
                  | inr u ↦ subst₂ P (sym t.1) (sym u.1) (h.numbers_distinct a b)
                ]
          ];
      names_distinct = λ a b y z e d n.
          elim (at a) [
            | inl t ↦
                elim (at b) [
                  | inl u ↦ t.0 ∙ sym u.0
                  | inr u ↦ absurd (names b z y u.0 (sym u.1 ∙ d) (sym t.1 ∙ e) (sym n))
                ]
            | inr t ↦
                elim (at b) [
                  | inl u ↦ absurd (names a y z t.0 (sym t.1 ∙ e) (sym u.1 ∙ d) n)
                  | inr u ↦ h.names_distinct a b y z (sym t.1 ∙ e) (sym u.1 ∙ d) n
                ]
          ];
      waiting_ascends = i.ascends;
      waiting_ahead = i.ahead;
      waiting_held = i.for_held;
      one_trigger_each = i.one_each;
      places_ascend = j.ascend;
      places_apart = j.apart;
      places_held = j.for_held;
      one_place_each = j.one_each;
    }

-- an entry for another slot, and for another number, stands after slot k was set
held_elsewhere : (xs : List Slot) (k : ℕ) (x : Slot) (j : ℕ) → (j ≡ k → ⊥) → is_held (get_or xs j free) ≡ true → is_held (get_or (set xs k x) j free) ≡ true
held_elsewhere xs k x j d h = ap is_held (get_or-set_other xs k j x free d) ∙ h

-- a header takes slot k
pub sound_begun : (s : State) (k t : ℕ) (i : slides.Image) → Sound s → k < 12 → 0 < i.size → i.size ≤ s.room → passed s.clock i.expire ≡ false → Sound (begun k t i s)
sound_begun s k t i h lt po le live =
    let x : Slot = arriving (arrival t (suc s.given) i) in
    sound_placed s k x (suc s.given) k _ _ h lt lt (omega arith) (omega arith, omega arith, po, le, refl, live)
    (λ j d e. omega (arith, below (slot_at s j) (h.slot_sound j)))
    (λ j y z d e q n. absurd (let u : ◌≡◌ {A = ℕ} 0 1 = cc in omega arith))
    (waits_kept (λ e. not (eqb e.load k)) s.clock s.clock s.slots (set s.slots k x) s.waiting (λ e u v. u)
    (λ e u v. held_elsewhere s.slots k x e.load (eqb-false e.load k (not-true (eqb e.load k) v)) u) (waits_of s h))
    (files_kept (λ e. not (numbered e.load (slot_at s k))) s.slots (set s.slots k x) s.places
    (λ e u v. any_set (numbered e.load) s.slots k x (not-true _ v) u) (files_of s h))
  where
    below : (z : Slot) → SlotSound s.clock s.given s.room z → number_in z ≤ s.given
    below free ok = omega arith
    below (arriving o) ok = ok.1
    below (held y) ok = ok.1

-- slot k, whose object arrives, comes to hold what has its number
module _ (s : State) (k : ℕ) (o : Object) (i : slot_at s k ≡ arriving o) (h : Sound s) where
  object_sound : SlotSound s.clock s.given s.room (arriving o)
  object_sound = subst (SlotSound s.clock s.given s.room) i (h.slot_sound k)

  pub arriving_within : k < 12
  arriving_within = omega (arith, h.twelve, inside s.slots k i)
    where
      inside : (xs : List Slot) (k : ℕ) → get_or xs k free ≡ arriving o → k < length xs
      inside [] k e = absurd (let q : ◌≡◌ {A = ℕ} 0 1 = cc in omega arith)
      inside (x ∷ xs) zero e = omega arith
      inside (x ∷ xs) (suc k) e = let q : k < length xs = inside xs k e in omega arith

  sound_arrived : (x : Slot) → SlotSound s.clock s.given s.room x → number_in x ≡ o.number → ((j : ℕ) (y z : Slide) → (j ≡ k → ⊥) → slot_at s j ≡ held y → x ≡ held z → y.name ≡ z.name → ⊥) → Sound (put k x s)
  sound_arrived x ok same names =
      sound_placed s k x s.given s.recent s.waiting s.places h arriving_within h.round (omega arith) ok
      (λ j d e.
      let z : number_in (slot_at s k) ≡ o.number = ap number_in i in
      d (sym (h.numbers_distinct k j (omega (arith, z, object_sound.0)) (z ∙ (sym same ∙ sym e)))))
      names
      (record {
        ascends = h.waiting_ascends;
        ahead = h.waiting_ahead;
        for_held = all_mono (λ e. is_held (slot_at s e.load) ≡ true) (λ e. is_held (get_or (set s.slots k x) e.load free) ≡ true)
            (λ e u. held_elsewhere s.slots k x e.load (λ q. both_ways false refl (sym (ap (λ n. is_held (slot_at s n)) q ∙ ap is_held i) ∙ u)) u) s.waiting h.waiting_held;
        one_each = h.one_trigger_each;
      })
      (record {
        ascend = h.places_ascend;
        apart = h.places_apart;
        for_held = all_mono (λ e. any (numbered e.load) s.slots ≡ true) (λ e. any (numbered e.load) (set s.slots k x) ≡ true)
            (λ e u. any_set (numbered e.load) s.slots k x (ap (numbered e.load) i) u) s.places h.places_held;
        one_each = h.one_place_each;
      })

  -- a segment more
  pub sound_received : (p : Progress) → p.size ≡ o.progress.size → Sound (put k (arriving (with_progress o p)) s)
  sound_received p e =
      let O = object_sound in
      sound_arrived (arriving (with_progress o p)) (O.0, O.1, O.2, O.3, e ∙ O.4, O.5) refl
      (λ j y z d u v n. absurd (let q : ◌≡◌ {A = ℕ} 0 1 = cc in omega arith))

  -- the slide, where no other has its name
  sound_held : ((j : ℕ) (y : Slide) → slot_at s j ≡ held y → y.name ≡ o.image.name → ⊥) → Sound (put k (held (slide_of o)) s)
  sound_held alone =
      let O = object_sound in
      sound_arrived (held (slide_of o)) (O.0, O.1, O.2, O.3, O.5) refl
      (λ j y z d u v n. alone j y u (n ∙ let q : slide_of o ≡ z = cc in sym (ap (λ (t : Slide). t.name) q)))

-- a name differs where the test says so
differs : (a b : NameRecord) → same_name a b ≡ false → a ≡ b → ⊥
differs a b e q = both_ways (same_name a b) e ((same_decides a b).1 q)

-- a slide takes its slot once the held one of its name is gone
pub sound_filed : (k : ℕ) (o : Object) (s : State) → slot_at s k ≡ arriving o → Sound s → Sound (put k (held (slide_of o)) (vacate (named o.image.name) s))
sound_filed k o s i h =
    let a : NameRecord = o.image.name in
    let u : State = vacate (named a) s in
    let i' : slot_at u k ≡ arriving o = getD_vacate (named a) s.slots k ∙ ap (λ x. cond (named a x) free x) i in
    sound_held u k o i' (sound_vacate (named a) s h)
    (λ j y e n.
    let z = from_freed (named a (slot_at s j)) (slot_at s j) y (sym (getD_vacate (named a) s.slots j) ∙ e) in
    differs y.name a (sym (ap (named a) z.1) ∙ z.0) n)

-- the slide in slot k has another TransportId
sound_under : (s : State) (k t : ℕ) (x : Slide) → slot_at s k ≡ held x → k < 12 → Sound s → Sound (put k (held (resent_slide t x)) s)
sound_under s k t x i lt h =
    let z : Slot = held (resent_slide t x) in
    let within : k < length s.slots = omega (arith, h.twelve) in
    let ok : SlotSound s.clock s.given s.room (held x) = subst (SlotSound s.clock s.given s.room) i (h.slot_sound k) in
    let n : number_in (slot_at s k) ≡ x.number = ap number_in i in
    sound_placed s k z s.given s.recent s.waiting s.places h lt h.round (omega arith) ok
    (λ j d e. d (sym (h.numbers_distinct k j (omega (arith, n, ok.0)) (n ∙ sym e))))
    (λ j y a d e q m. d (h.names_distinct j k y x e i (m ∙ let p : resent_slide t x ≡ a = cc in sym (ap (λ (v : Slide). v.name) p))))
    (record {
      ascends = h.waiting_ascends;
      ahead = h.waiting_ahead;
      for_held = all_mono (λ e. is_held (slot_at s e.load) ≡ true) (λ e. is_held (get_or (set s.slots k z) e.load free) ≡ true)
          (λ e u. elim (at_set s.slots k z within e.load) [ inl v ↦ ap is_held v.1 | inr v ↦ ap is_held v.1 ∙ u ]) s.waiting h.waiting_held;
      one_each = h.one_trigger_each;
    })
    (record {
      ascend = h.places_ascend;
      apart = h.places_apart;
      for_held = all_mono (λ e. any (numbered e.load) s.slots ≡ true) (λ e. any (numbered e.load) (set s.slots k z) ≡ true)
          (λ e u. any_same (numbered e.load) s.slots k z (sym (ap (numbered e.load) i)) ∙ u) s.places h.places_held;
      one_each = h.one_place_each;
    })

-- so it does where the slide takes a TransportId
pub sound_transport : (s : State) (k t : ℕ) (x : Slide) → slot_at s k ≡ held x → k < 12 → Sound s → Sound (with_transport k t s)
sound_transport s k t x i lt h =
    subst Sound (ap (λ z. put k (moved (slides.resent t) z) s) (sym i)) (sound_under s k t x i lt h)

-- the slide in slot k is sent again: what arrives under the TransportId is dropped, and it is still there
module _ (s : State) (k t : ℕ) (x : Slide) (i : slot_at s k ≡ held x) (lt : k < 12) (h : Sound s) where
  pub still_held : slot_at (vacate (comes t) s) k ≡ held x
  still_held = getD_vacate (comes t) s.slots k ∙ ap (λ z. cond (comes t z) free z) i

  pub resent_is : resent k t s ≡ put k (held (resent_slide t x)) (vacate (comes t) s)
  resent_is = ap (λ z. put k (moved (slides.resent t) z) (vacate (comes t) s)) still_held

  pub resent_slot : slot_at (resent k t s) k ≡ held (resent_slide t x)
  resent_slot =
      ap (λ u. slot_at u k) resent_is
      ∙ get_or-set_same (vacate (comes t) s).slots k (held (resent_slide t x)) free (omega (arith, (sound_vacate (comes t) s h).twelve, lt))

  pub sound_resent : Sound (resent k t s)
  sound_resent = subst Sound (sym resent_is) (sound_under (vacate (comes t) s) k t x still_held lt (sound_vacate (comes t) s h))

-- a slide in a category
pub sound_categorised : (c : Option Category) (k : ℕ) (w : World) (x : Slide) → slot_at w.state k ≡ held x → Sound w.state → Sound (categorised c x.number w).state
sound_categorised None k w x i h =
    let s : State = w.state in
    sound_holding s _ _ h (waits_of s h) (files_kept (λ e. not (eqb e.load x.number)) s.slots s.slots s.places (λ e u v. u) (files_of s h))
sound_categorised (Some c) k w x i h =
    let s : State = w.state in
    let n : ℕ = x.number in
    let key : ℕ × ℕ = (c.category, c.slide) in
    let e : Entry (ℕ × ℕ) = record { key = key; load = n } in
    let p : Entry (ℕ × ℕ) → Bool = λ d. not (eqb d.load n || (eqb d.key.0 c.category && eqb d.key.1 c.slide)) in
    let kept = files_kept p s.slots s.slots s.places (λ d u v. u) (files_of s h) in
    let away : (d : Entry (ℕ × ℕ)) → p d ≡ true → (eqb d.load n ≡ false) × (same_place d.key key ≡ false) = λ d t. or_parts (eqb d.load n) (same_place d.key key) (not-true _ t) in
    let there : any (numbered n) s.slots ≡ true = any_at (numbered n) refl s.slots k (ap (numbered n) i ∙ eq-eqb n n refl) in
    sound_holding s _ _ h (waits_of s h)
    (record {
      ascend = ascending_shelved (then_total (on_total (λ p. p.0) nat_cmp_total) (on_total (λ p. p.1) nat_cmp_total)) e (filter p s.places) kept.ascend;
      apart = places_apart_shelved by_place e (filter p s.places) (kept_pass p (λ d. same_place key d.key ≡ false) (λ d t. turned key d.key (away d t).1) s.places) kept.apart;
      for_held = all_shelved by_place (λ d. any (numbered d.load) s.slots ≡ true) e (filter p s.places) there kept.for_held;
      one_each = apart_shelved by_place e (filter p s.places) (none_carries p n (λ d t. (away d t).0) s.places) kept.one_each;
    })
  where
    turned : (a b : ℕ × ℕ) → same_place b a ≡ false → same_place a b ≡ false
    turned a b q = same_place_turned a b ∙ q

-- a trigger is armed for the slide in slot k
pub sound_armed : (v : Verdict) (k : ℕ) (w : World) (x : Slide) → slot_at w.state k ≡ held x → ((t : ℕ) → v ≡ wait t → w.state.clock < t) → Sound w.state → Sound (armed v k w).state
sound_armed nothing k w x i ok h = h
sound_armed late k w x i ok h = sound_filtered (λ e. not (eqb e.load k)) w.state h
sound_armed effect k w x i ok h = sound_filtered (λ e. not (eqb e.load k)) w.state h
sound_armed (wait t) k w x i ok h =
    let s : State = w.state in
    let p : Entry ℕ → Bool = λ e. not (eqb e.load k) in
    let e : Entry ℕ = record { key = t; load = k } in
    let kept = waits_kept p s.clock s.clock s.slots s.slots s.waiting (λ d u v. u) (λ d u v. u) (waits_of s h) in
    sound_holding s _ _ h
    (record {
      ascends = ascending_shelved nat_cmp_total e (filter p s.waiting) kept.ascends;
      ahead = all_shelved by_moment (λ d. s.clock < d.key) e (filter p s.waiting) (ok t refl) kept.ahead;
      for_held = all_shelved by_moment (λ d. is_held (slot_at s d.load) ≡ true) e (filter p s.waiting) (ap is_held i) kept.for_held;
      one_each = apart_shelved by_moment e (filter p s.waiting) (none_carries p k (λ d u. not-true (eqb d.load k) u) s.waiting) kept.one_each;
    })
    (files_of s h)

other_clock : (c t g S : ℕ) (x : Slot) → ends t x ≡ false → SlotSound c g S x → SlotSound t g S x
other_clock c t g S free e h = tt
other_clock c t g S (arriving o) e h = (h.0, h.1, h.2, h.3, h.4, e)
other_clock c t g S (held x) e h = (h.0, h.1, h.2, h.3, e)

-- the clock comes to t, which nothing lies before
pub sound_fire : (t : ℕ) (w : World) → Sound w.state → AllByRecursion (λ (e : Entry ℕ). t ≤ e.key) w.state.waiting → ((k : ℕ) → ends t (slot_at w.state k) ≡ false) → Sound (fire t w).state
sound_fire t w h ahead alive =
    let s : State = w.state in
    let p : Entry ℕ → Bool = λ e. not (eqb e.key t) in
    let kept = waits_kept p s.clock s.clock s.slots s.slots s.waiting (λ e u v. u) (λ e u v. u) (waits_of s h) in
    record {
      twelve = h.twelve;
      round = h.round;
      slot_sound = λ k. other_clock s.clock t s.given s.room (slot_at s k) (alive k) (h.slot_sound k);
      numbers_distinct = h.numbers_distinct;
      names_distinct = h.names_distinct;
      waiting_ascends = kept.ascends;
      waiting_ahead = all_kept p (λ e. t ≤ e.key) (λ e. t < e.key) (λ e u v. let d : e.key ≡ t → ⊥ = eqb-false e.key t (not-true (eqb e.key t) v) in omega arith) s.waiting ahead;
      waiting_held = kept.for_held;
      one_trigger_each = kept.one_each;
      places_ascend = h.places_ascend;
      places_apart = h.places_apart;
      places_held = h.places_held;
      one_place_each = h.one_place_each;
    }

-- what has expired by t is gone
pub alive_after : (t : ℕ) (s : State) (k : ℕ) → ends t (slot_at (vacate (ends t) s) k) ≡ false
alive_after t s k = rw (getD_vacate (ends t) s.slots k) (go (ends t (slot_at s k)) refl)
  where
    go : (b : Bool) → ends t (slot_at s k) ≡ b → ends t (cond b free (slot_at s k)) ≡ false
    go true e = refl
    go false e = e

sound_tick : (w : World) → Sound w.state → Sound (tick w).state
unfolding tick
sound_tick w h =
    let s : State = w.state in
    let t : ℕ = suc s.clock in
    sound_fire t (expired t w) (sound_vacate (ends t) s h)
    (all_kept _ (λ (e : Entry ℕ). s.clock < e.key) (λ e. t ≤ e.key) (λ e u v. u) s.waiting h.waiting_ahead) (alive_after t s)

pub sound_walk : (n : ℕ) (w : World) → Sound w.state → Sound (walk n w).state
sound_walk zero w h = h
sound_walk (suc n) w h = sound_tick (walk n w) (sound_walk n w h)

-- a setting
pub sound_set : (t : ℕ) (w : World) → Sound w.state → Sound (fire t (prepared t w)).state
sound_set t w h =
    let u : State = vacate (ends t) w.state in
    let p : Entry ℕ → Bool = λ e. leb t e.key in
    sound_fire t (prepared t w) (sound_filtered p u (sound_vacate (ends t) w.state h))
    (kept_pass p (λ e. t ≤ e.key) (λ e v. leb-true t e.key v) u.waiting) (alive_after t w.state)

-- what a reading in one pass asks for
keys_up : (ws : List (Entry ℕ)) → Ascending by_moment ws → NeverFalls (map (λ (e : Entry ℕ). e.key) ws)
keys_up [] h = tt
keys_up (e ∷ ws) h = (row ws h.0, keys_up ws h.1)
  where
    row : (vs : List (Entry ℕ)) → AllByRecursion (λ (d : Entry ℕ). above by_moment d.key e ≡ false) vs → AllByRecursion (λ k. e.key ≤ k) (map (λ (d : Entry ℕ). d.key) vs)
    row [] a = tt
    row (d ∷ vs) a = (ltb-false d.key e.key (sym (later d.key e) ∙ a.0), row vs a.1)

pub every_slot : (P : Slot → Type 0) (xs : List Slot) → ((k : ℕ) → P (get_or xs k free)) → AllByRecursion P xs
every_slot P [] i = tt
every_slot P (x ∷ xs) i = (i 0, every_slot P xs (λ k. i (suc k)))

still_alive : (c g S : ℕ) (x : Slot) → SlotSound c g S x → ends c x ≡ false
still_alive c g S free h = refl
still_alive c g S (arriving o) h = h.5
still_alive c g S (held x) h = h.4

pub sound_ready : (s : State) → Sound s → Ready s
sound_ready s h = record {
  ascending = keys_up s.waiting h.waiting_ascends;
  ahead = h.waiting_ahead;
  alive = every_slot (λ x. ends s.clock x ≡ false) s.slots (λ k. still_alive s.clock s.given s.room (slot_at s k) (h.slot_sound k));
}
