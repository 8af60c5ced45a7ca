-- An image header by what it finds: a held slide sent under its TransportId or another, an object that arrives just so, or neither.
use Rattle.std.proofs.Common.{◌≡◌, ℕ, Bool, cond, List, [], Some, None, Option, sym, ap, ◌∙◌}
use Rattle.header.specs.Headers.{HeaderRecord}
use Rattle.rules.specs.Effects.{changed_effects, image_effects}
use Rattle.rules.specs.Headers.{on_some, new_image, changed, image_step}
use Rattle.rules.specs.Triggers.{Effect}
use Rattle.rules.specs.Worlds.{World, slot_at}
use Rattle.rules.specs.declared.answers.Answer.{Answer}
use Rattle.rules.specs.declared.answers.Answer.TheVariants.{Repeat}
use Rattle.slots.specs.Searches.{first_slot}
use Rattle.slots.specs.Slides.{image_of, versioned, comes_again, sent_under, number_in}

module _ (w : World) (t : ℕ) (h : HeaderRecord) where
  abbrev repeat : ℕ → Answer × World
  repeat k = (Repeat (number_in (slot_at w.state k)), w)

  abbrev at_new : Option ℕ → Answer × World
  at_new o = on_some o (new_image w t (image_of h)) repeat

  abbrev at_held : Bool → ℕ → Answer × World
  at_held b k = cond b (repeat k) (changed w t h k)

  abbrev at_found : Option ℕ → Answer × World
  at_found o =
      on_some o (at_new (first_slot (comes_again t (image_of h)) w.state.slots)) (λ k. at_held (sent_under t (slot_at w.state k)) k)

  abbrev told_found : Option ℕ → List Effect
  told_found o = on_some o [] (λ k. cond (sent_under t (slot_at w.state k)) [] (changed_effects w t h k))

  -- v is its version
  module _ (v : ℕ) (e : v ≡ (image_of h).version) where
    finds : (o : Option ℕ) → o ≡ first_slot (versioned h.name v) w.state.slots → first_slot (versioned h.name (image_of h).version) w.state.slots ≡ o
    finds o f = sym (f ∙ ap (λ (u : ℕ). first_slot (versioned h.name u) w.state.slots) e)

    pub held_finds : (k : ℕ) (b : Bool) → Some k ≡ first_slot (versioned h.name v) w.state.slots → b ≡ sent_under t (slot_at w.state k) → image_step w t h ≡ at_held b k
    held_finds k b f g = ap at_found (finds (Some k) f) ∙ ap (λ x. at_held x k) (sym g)

    pub new_finds : (o : Option ℕ) → None ≡ first_slot (versioned h.name v) w.state.slots → o ≡ first_slot (comes_again t (image_of h)) w.state.slots → image_step w t h ≡ at_new o
    new_finds o f g = ap at_found (finds None f) ∙ ap at_new (sym g)

    -- and what takes effect
    pub held_tells : (k : ℕ) (b : Bool) → Some k ≡ first_slot (versioned h.name v) w.state.slots → b ≡ sent_under t (slot_at w.state k) → image_effects w t h ≡ cond b [] (changed_effects w t h k)
    held_tells k b f g = ap told_found (finds (Some k) f) ∙ ap (λ x. cond x [] (changed_effects w t h k)) (sym g)
