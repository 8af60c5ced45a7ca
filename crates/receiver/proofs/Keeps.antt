-- Each part of a call keeps the state sound.
use Rattle.std.proofs.Common.{◌≡◌, ℕ, suc, ◌<◌, ◌≤◌, Bool, true, false, not, ◌||◌, eqb, leb, min, List, [], ◌∷◌, get_or, filter, Option, sym, refl, ap, ◌∙◌, subst, arith}
use Rattle.display.specs.Meaning.{blank}
use Rattle.header.specs.declared.kinds.Category.{Category}
use Rattle.moment.specs.declared.times.Time.{Time}
use Rattle.receiver.specs.Views.{fresh_state}
use Rattle.rules.proofs.Filters.{all_kept, kept_pass}
use Rattle.rules.proofs.Kept.{sound_open, later_than}
use Rattle.rules.proofs.Moments.{all_mono}
use Rattle.rules.proofs.Passes.{kept_all}
use Rattle.rules.proofs.Sounds.{sound_vacate, sound_filtered, sound_categorised, sound_armed, sound_fire, alive_after}
use Rattle.rules.specs.Headers.{is_held}
use Rattle.rules.specs.Passes.{undue, at_clock}
use Rattle.rules.specs.Soundness.{Sound}
use Rattle.rules.specs.Triggers.{wait, verdict}
use Rattle.rules.specs.Worlds.{State, World, slot_at, any, vacate, holding, undone, in_category}
use Rattle.shelf.specs.Kinds.{by_moment}
use Rattle.shelf.specs.Places.{shelved}
use Rattle.shelf.specs.declared.entries.Entry.{Entry}
use Rattle.slots.specs.Slides.{Slot, Slide, free, arriving, held, numbered, ends}
use Rattle.std.proofs.lemmas.Bool.{eqb-true, ne_eqb, leb-false}
use Rattle.std.specs.List.{AllByRecursion}

-- a world of this state
abbrev around : State → World
around s = record { state = s; memory = []; display = blank 0 }

pub sound_fresh : (room : ℕ) → Sound (fresh_state room)
sound_fresh room =
    let e : min room room ≡ room = omega arith in
    subst (λ r. Sound (fresh_state r)) e (sound_open (blank room) room [])

-- a slot that passes
some_slot : (p : Slot → Bool) (xs : List Slot) → any p xs ≡ true → (k : ℕ) × (p (get_or xs k free) ≡ true)
some_slot p [] e = let z : ◌≡◌ {A = ℕ} 0 1 = cc in absurd (omega arith)
some_slot p (x ∷ xs) e = go (p x) refl e (some_slot p xs)
  where
    go : (b : Bool) → p x ≡ b → (b || any p xs) ≡ true → (any p xs ≡ true → (k : ℕ) × (p (get_or xs k free) ≡ true)) → (k : ℕ) × (p (get_or (x ∷ xs) k free) ≡ true)
    go true t e ih = (0, t)
    go false t e ih = let (k, q) = ih e in (suc k, q)

held_with : (z : Slot) (n : ℕ) → numbered n z ≡ true → (x : Slide) × (z ≡ held x) × (x.number ≡ n)
held_with free n e = let z : ◌≡◌ {A = ℕ} 0 1 = cc in absurd (omega arith)
held_with (arriving o) n e = let z : ◌≡◌ {A = ℕ} 0 1 = cc in absurd (omega arith)
held_with (held x) n e = (x, refl, eqb-true x.number n e)

pub held_in : (z : Slot) → is_held z ≡ true → (x : Slide) × (z ≡ held x)
held_in free e = let z : ◌≡◌ {A = ℕ} 0 1 = cc in absurd (omega arith)
held_in (arriving o) e = let z : ◌≡◌ {A = ℕ} 0 1 = cc in absurd (omega arith)
held_in (held x) e = (x, refl)

pub sound_in_category : (c : Option Category) (n : ℕ) (s : State) → Sound s → any (numbered n) s.slots ≡ true → Sound (holding s.slots s.waiting (in_category c n s.places) s)
sound_in_category c n s h t =
    let (k, q) = some_slot (numbered n) s.slots t in
    let (x, i, e) = held_with (slot_at s k) n q in
    subst (λ j. Sound (holding s.slots s.waiting (in_category c j s.places) s)) e (sound_categorised c k (around s) x i h)

pub sound_waits : (s : State) (m k : ℕ) (trigger : Option Time) → Sound s → is_held (slot_at s k) ≡ true → wait m ≡ verdict s.clock trigger → Sound (holding s.slots (shelved by_moment (record { key = m; load = k }) (undone k s)) s.places s)
sound_waits s m k trigger h is q =
    let (x, i) = held_in (slot_at s k) is in
    sound_armed (wait m) k (around s) x i (λ t e. later_than s.clock trigger t (sym q ∙ e)) h

-- the clock comes to t, once what is due or has expired by then is gone
pub sound_passes : (t : ℕ) (s : State) → Sound s → Sound (at_clock t (vacate (ends t) (undue t s)))
sound_passes t s h =
    let u : State = vacate (ends t) (undue t s) in
    let p : Entry ℕ → Bool = λ e. not (leb e.key t) in
    let q : Entry ℕ → Bool = λ e. not (eqb e.key t) in
    let above : AllByRecursion (λ (e : Entry ℕ). t < e.key) u.waiting =
    all_kept _ (λ (e : Entry ℕ). t < e.key) (λ (e : Entry ℕ). t < e.key) (λ e i v. i) (undue t s).waiting (kept_pass p (λ (e : Entry ℕ). t < e.key) (λ e v. beyond e.key v) s.waiting) in
    let fired = sound_fire t (around u) (sound_vacate (ends t) (undue t s) (sound_filtered p s h)) (all_mono (λ (e : Entry ℕ). t < e.key) (λ (e : Entry ℕ). t ≤ e.key) (λ e i. omega arith) u.waiting above) (alive_after t (undue t s)) in
    let all : filter q u.waiting ≡ u.waiting = kept_all q u.waiting (all_mono (λ (e : Entry ℕ). t < e.key) (λ (e : Entry ℕ). q e ≡ true) (λ e i. ap not (ne_eqb e.key t (λ d. omega arith))) u.waiting above) in
    subst (λ ws. Sound (record { clock = t; given = u.given; recent = u.recent; room = u.room; slots = u.slots; waiting = ws; places = u.places })) all fired
  where
    beyond : (k : ℕ) → not (leb k t) ≡ true → t < k
    beyond k v = leb-false k t (turn (leb k t) v)
      where
        turn : (b : Bool) → not b ≡ true → b ≡ false
        turn true v = sym v
        turn false v = refl
