-- A setting in one pass: once what has expired is gone and the triggers below t are dropped, it is a pass to t.
use Rattle.std.proofs.Common.{◌≡◌, ℕ, ◌≤◌, Bool, true, false, not, ◌&&◌, eqb, leb, map, filter, refl, ap, ◌∙◌, ap₂, arith}
use Rattle.rules.proofs.Filters.{kept_pass}
use Rattle.rules.proofs.Passes.{kept_ext, kept_all, freed_none, slot_false, every, none_lost}
use Rattle.rules.proofs.Sounds.{alive_after, every_slot}
use Rattle.rules.specs.Clocks.{prepared}
use Rattle.rules.specs.Passes.{passed_to, seen, shot, undue, at_clock}
use Rattle.rules.specs.Worlds.{State, World, slot_at, vacate, holding, due, fire, show_all, any}
use Rattle.shelf.specs.declared.entries.Entry.{Entry}
use Rattle.slots.specs.Slides.{ends, numbered}
use Rattle.std.proofs.lemmas.Bool.{leb-true, le-leb, lt-leb, eqb-true, eqb-false}
use Rattle.std.specs.List.{AllByRecursion}

-- where no slot has expired by t, nothing leaves
pub vacate_none : (t : ℕ) (s : State) → AllByRecursion (λ x. ends t x ≡ false) s.slots → vacate (ends t) s ≡ s
vacate_none t s h i = record {
  clock = s.clock;
  given = s.given;
  recent = s.recent;
  room = s.room;
  slots = freed_none (ends t) s.slots h i;
  waiting = kept_all (λ e. not (ends t (slot_at s e.load))) s.waiting (every (λ e. not (ends t (slot_at s e.load)) ≡ true) (λ e. ap not (slot_false (ends t) refl s.slots h e.load)) s.waiting) i;
  places = kept_all (λ e. not (any (λ x. ends t x && numbered e.load x) s.slots)) s.places (every _ (λ e. none_lost t e.load s.slots h) s.places) i;
}

module _ (t : ℕ) (w : World) where
  abbrev s : State
  s = (prepared t w).state

  alive : AllByRecursion (λ x. ends t x ≡ false) s.slots
  alive = every_slot (λ x. ends t x ≡ false) s.slots (alive_after t w.state)

  ahead : AllByRecursion (λ (e : Entry ℕ). t ≤ e.key) s.waiting
  ahead =
      kept_pass (λ e. leb t e.key) (λ e. t ≤ e.key) (λ e v. leb-true t e.key v) (vacate (ends t) w.state).waiting

  at_t : (e : Entry ℕ) → t ≤ e.key → leb e.key t ≡ eqb e.key t
  at_t e h = go (eqb e.key t) refl
    where
      go : (b : Bool) → eqb e.key t ≡ b → leb e.key t ≡ b
      go true q = le-leb e.key t (omega (arith, eqb-true e.key t q))
      go false q = let d = eqb-false e.key t q in lt-leb e.key t (omega (arith, h, d))

  seen_due : (e : Entry ℕ) → t ≤ e.key → seen s t e ≡ eqb e.key t
  seen_due e h = go (eqb e.key t) refl
    where
      go : (b : Bool) → eqb e.key t ≡ b → seen s t e ≡ b
      go true q =
          ap₂ (λ x y. x && not y) (at_t e h ∙ q) (ap (λ k. ends k (slot_at s e.load)) (eqb-true e.key t q) ∙ slot_false (ends t) refl s.slots alive e.load)
      go false q = ap (λ x. x && not (ends e.key (slot_at s e.load))) (at_t e h ∙ q)

  pub due_seen : filter (seen s t) s.waiting ≡ due t s.waiting
  due_seen = kept_ext (λ e. t ≤ e.key) (seen s t) (λ e. eqb e.key t) seen_due s.waiting ahead

  rest : filter (λ e. not (leb e.key t)) s.waiting ≡ filter (λ e. not (eqb e.key t)) s.waiting
  rest = kept_ext (λ e. t ≤ e.key) (λ e. not (leb e.key t)) (λ e. not (eqb e.key t)) (λ e h. ap not (at_t e h)) s.waiting ahead

  pub setting_passes : passed_to t (prepared t w) ≡ fire t (prepared t w)
  setting_passes i = record {
    state = at_clock t ((vacate_none t (undue t s) alive ∙ ap (λ ws. holding s.slots ws s.places s) rest) i);
    memory = w.memory;
    display = show_all w.display (map (shot (prepared t w)) (due_seen i));
  }
