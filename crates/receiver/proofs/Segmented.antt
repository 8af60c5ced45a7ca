-- A segment call by what is found, and where the segment lands.
use Rattle.std.proofs.Common.{◌≡◌, ℕ, ◌+◌, ◌*◌, ◌<◌, ◌≤◌, Bool, true, false, cond, List, [], Some, None, Ok, Option, Err, Result, sym, refl, ap, ap₂, ◌∙◌, arith}
use Rattle.header.specs.Names.{NameRecord}
use Rattle.packed.specs.Parts.{pasted}
use Rattle.receiver.specs.Arrivals.{stored, comes_to, comes_to_effects}
use Rattle.receiver.specs.declared.filings.Received.{Received}
use Rattle.receiver.specs.declared.filings.Received.TheVariants.{Part, Whole}
use Rattle.refusal.specs.declared.causes.Cause.TheVariants.{BodyMemoryMisfit, NotArriving}
use Rattle.rules.specs.Assembly.{assembly_fault, on_arriving, on_landing, put, received, filed, told_filing, segment_of, segment_step}
use Rattle.rules.specs.Effects.{filed_effects, landing_effects, segment_effects}
use Rattle.rules.specs.Headers.{receiver_fault, on_some}
use Rattle.rules.specs.Soundness.{Sound, SlotSound}
use Rattle.rules.specs.Triggers.{verdict, Effect}
use Rattle.rules.specs.Worlds.{State, World, slot_at, fits_memory, with_state, vacate}
use Rattle.rules.specs.declared.answers.Answer.{Answer}
use Rattle.rules.specs.declared.answers.Answer.TheVariants.{Taken, Refused}
use Rattle.slots.proofs.Landings.{lands}
use Rattle.slots.proofs.Pieces.{fit, tight_inside, next_piece}
use Rattle.slots.specs.Contents.{object_in}
use Rattle.slots.specs.Searches.{first_slot}
use Rattle.slots.specs.Seen.{object_of}
use Rattle.slots.specs.Segments.{landing, grown, piece_with, after_segment, after_landing, complete}
use Rattle.slots.specs.Slides as slides
use Rattle.slots.specs.Slides.{Slot, Object, free, arriving, held, named, slide_of, with_progress}
use Rattle.slots.specs.declared.indices.SlotIndex.{SlotIndex}
use Rattle.slots.specs.declared.progress.Landing.TheVariants.{At}
use Rattle.slots.specs.declared.progress.Progress.{Progress}
use Rattle.slots.specs.declared.progress.Segment.{Segment}
use Rattle.slots.specs.declared.records.Arrival.{Arrival}
use Rattle.std.proofs.lemmas.Bool.{cond-true, cond-false}
use Rattle.std.specs.Option.{ok_or}

-- the refusal of nothing is the one that was given for it
module _ {A E : Type 0} where
  pub refusal_given : (o : Option A) (x e : E) → Err x ≡ ok_or o e → o ≡ None → x ≡ e
  refusal_given o x e v n =
      let q : ◌≡◌ {A = Result A E} (Err x) (Err e) = v ∙ ap (λ (p : Option A). ok_or p e) n in
      cc

module _ (w : World) (t n : ℕ) (last : Bool) (xs : List ℕ) where
  -- the step and its shows are these
  abbrev pub Steps : Answer × World → List Effect → Type 0
  Steps a es = (segment_step w t n last xs ≡ a) × (segment_effects w t n last xs ≡ es)

  abbrev misfit : Answer × World
  misfit = (Refused (receiver_fault BodyMemoryMisfit), w)

  abbrev nowhere : Answer × World
  nowhere = (Refused (assembly_fault NotArriving), w)

  abbrev at_object : ℕ → Object → Answer × World
  at_object k o = on_landing (landing o.progress (segment_of n last xs)) k o (segment_of n last xs) xs w

  abbrev at_slot : Option ℕ → Answer × World
  at_slot f = on_some f nowhere (λ k. on_arriving (slot_at w.state k) nowhere (at_object k))

  abbrev told_object : ℕ → Object → List Effect
  told_object k o = landing_effects (landing o.progress (segment_of n last xs)) k o (segment_of n last xs) xs w

  abbrev told_slot : Option ℕ → List Effect
  told_slot f = on_some f [] (λ k. on_arriving (slot_at w.state k) [] (told_object k))

  pub segment_misfit : fits_memory w ≡ false → Steps misfit []
  unfolding segment_step segment_effects
  segment_misfit h =
      (cond-false (fits_memory w) (at_slot (first_slot (slides.comes t) w.state.slots)) misfit h, cond-false (fits_memory w) (told_slot (first_slot (slides.comes t) w.state.slots)) [] h)

  found : (f : Option ℕ) → fits_memory w ≡ true → f ≡ first_slot (slides.comes t) w.state.slots → Steps (at_slot f) (told_slot f)
  unfolding segment_step segment_effects
  found f h e =
      (cond-true (fits_memory w) (at_slot (first_slot (slides.comes t) w.state.slots)) misfit h ∙ ap at_slot (sym e), cond-true (fits_memory w) (told_slot (first_slot (slides.comes t) w.state.slots)) [] h ∙ ap told_slot (sym e))

  pub none_arrives : fits_memory w ≡ true → None ≡ first_slot (slides.comes t) w.state.slots → Steps nowhere []
  none_arrives h e = found None h e

  pub no_object : (k : ℕ) → fits_memory w ≡ true → Some k ≡ first_slot (slides.comes t) w.state.slots → object_in (slot_at w.state k) ≡ None → Steps nowhere []
  no_object k h e q =
      let f = found (Some k) h e in
      (f.0 ∙ (go (slot_at w.state k) q).0, f.1 ∙ (go (slot_at w.state k) q).1)
    where
      go : (z : Slot) → object_in z ≡ None → (on_arriving z nowhere (at_object k) ≡ nowhere) × (on_arriving z [] (told_object k) ≡ [])
      go free i = (refl, refl)
      go (arriving o) i = let b : ◌≡◌ {A = ℕ} 0 1 = cc in absurd (omega arith)
      go (held x) i = (refl, refl)

  pub object_takes : (k : ℕ) (o : Object) → fits_memory w ≡ true → Some k ≡ first_slot (slides.comes t) w.state.slots → slot_at w.state k ≡ arriving o → Steps (at_object k o) (told_object k o)
  object_takes k o h e i =
      let f = found (Some k) h e in
      (f.0 ∙ ap (λ z. on_arriving z nowhere (at_object k)) i, f.1 ∙ ap (λ z. on_arriving z [] (told_object k)) i)

-- a segment that lands comes to what is stored, and to the slide's category and trigger
module _ (w : World) (k : SlotIndex) (a : Arrival) (name : NameRecord) (g : Segment) (at : ℕ) (xs : List ℕ) where
  abbrev o : Object
  o = object_of a name

  abbrev q : Progress
  q = grown a.progress g

  -- slot k before and after the slide is held, with the segment's bytes in memory
  abbrev arrived : World
  arrived = received k.index o g at xs w

  abbrev kept : World
  kept = with_state (put k.index (held (slide_of (with_progress o q))) (vacate (named name) arrived.state)) arrived

  abbrev by : Bool → World
  by b = record { state = cond b kept.state arrived.state; memory = arrived.memory; display = w.display }

  comes : (b : Bool) → (cond b (told_filing (verdict w.state.clock a.trigger) a.number, filed k.index (with_progress o q) arrived) (Taken a.number, arrived) ≡ comes_to (Ok (cond b (Whole k a) (Part a.number))) (by b)) × (cond b (filed_effects k.index (with_progress o q) arrived) [] ≡ comes_to_effects (Ok (cond b (Whole k a) (Part a.number))) (by b))
  comes true = (refl, refl)
  comes false = (refl, refl)

  pub lands_comes : (r : Received) (u : World) → r ≡ cond (complete q) (Whole k a) (Part a.number) → u ≡ record { state = stored k.index o q w.state; memory = pasted w.memory (k.index * w.state.room + at) xs; display = w.display } → (on_landing (At at) k.index o g xs w ≡ comes_to (Ok r) u) × (landing_effects (At at) k.index o g xs w ≡ comes_to_effects (Ok r) u)
  lands_comes r u e i =
      let h = comes (complete q) in
      (h.0 ∙ ap₂ (λ (x : Received) (y : World). comes_to (Ok x) y) (sym e) (sym i), h.1 ∙ ap₂ (λ (x : Received) (y : World). comes_to_effects (Ok x) y) (sym e) (sym i))

-- a segment that lands lies within its body
pub lands_within : (p : Progress) (g : Segment) (at : ℕ) → At at ≡ landing p g → at + g.length ≤ p.size
lands_within p g at e =
    let l = lands p g at (sym e) in
    let f = fit p.piece p.size g.number g.last g.length l.fitting in
    omega (arith, l.place, f.off, tight_inside g.last p.size g.number g.length (piece_with p.size g.number g.last g.length) f.tight)

-- and is taken
pub lands_grown : (p : Progress) (g : Segment) (at : ℕ) → At at ≡ landing p g → after_segment p g ≡ grown p g
lands_grown p g at e = ap (λ l. after_landing l p g) (sym e)

-- so it lies within body memory
pub lands_in_memory : (s : State) → Sound s → (k : ℕ) (o : Object) → slot_at s k ≡ arriving o → k < 12 → (g : Segment) (at : ℕ) → At at ≡ landing o.progress g → k * s.room + at + g.length ≤ 12 * s.room
lands_in_memory s h k o i lt g at e = go (slot_at s k) i (h.slot_sound k)
  where
    go : (z : Slot) → z ≡ arriving o → SlotSound s.clock s.given s.room z → k * s.room + at + g.length ≤ 12 * s.room
    go free q x = let b : ◌≡◌ {A = ℕ} 0 1 = cc in absurd (omega arith)
    go (arriving p) q x =
        let same : p ≡ o = cc in
        omega (arith, lands_within o.progress g at e, x.3, x.4, ap (λ (y : Object). y.image.size) same, ap (λ (y : Object). y.progress.size) same, next_piece k 12 s.room lt)
    go (held y) q x = let b : ◌≡◌ {A = ℕ} 0 1 = cc in absurd (omega arith)
