use Rattle.std.proofs.Common.{◌≡◌, ◌<◌, true, false, length, get_or, set, sym, ap, ◌∙◌, arith}
use Rattle.receiver.proofs.Holds.{held_by, moved_on, sound_arrived, sound_next, slot_next}
use Rattle.receiver.proofs.Insides.{sound_of, kept_sound}
use Rattle.receiver.proofs.Updated.{held_number}
use Rattle.receiver.specs.Arrivals.{object_at, more}
use Rattle.receiver.specs.Views.{state_of}
use Rattle.rules.specs.Assembly.{put}
use Rattle.rules.specs.Headers.{is_held}
use Rattle.rules.specs.Worlds.{State, slot_at, any, vacate, holding}
use Rattle.slots.specs.Seen.{seen, all_seen}
use Rattle.slots.specs.Segments.{after_segment, complete}
use Rattle.slots.specs.Slides as slides
use Rattle.slots.specs.Slides.{Object, free, arriving, held, moved, named, numbered, number_in, slide_of}
use Rattle.std.proofs.lemmas.Bool.{cond-true}
use Rattle.std.proofs.lemmas.List.{length-map}
use Rattle.receiver.proofs.parts.Parts.lay.Goals as goal

pub invariant_of-self : goal.invariant_of-self
invariant_of-self c =
    let p = c.args.self.now in
    let s : State = state_of p in
    let k = c.args.k.index in
    let u = c.args.segment in
    let o : Object = object_at p k c.args.arrival in
    let lt : k < length s.slots = omega (arith, p.slots.twelve, c.args.k.within, length-map p.slots.records seen) in
    let v : State = state_of c.vacate.new.self in
    let whole : complete (after_segment o.progress u) ≡ true = sym (c.if-is_complete.ensures ∙ ap complete c.take.ensures.after) in
    let there = held_by s k o u c.requires lt v (all_seen c.on.new.self) (c.vacate.ensures ∙ ap (λ n. vacate (named n) s) c.name_at-name.ensures) whole (c.on.ensures.seen ∙ ap (λ j. set v.slots j (moved (slides.segment u) (get_or v.slots j free))) c.get.ensures.0) in
    record { sound = kept_sound _ _ there (sound_next s k o u c.requires lt (sound_of p)) }

pub returns-then-is_complete-clause-state : goal.returns-then-is_complete-clause-state
returns-then-is_complete-clause-state c =
    let p = c.args.self.now in
    let s : State = state_of p in
    let k = c.args.k.index in
    let u = c.args.segment in
    let o : Object = object_at p k c.args.arrival in
    let lt : k < length s.slots = omega (arith, p.slots.twelve, c.args.k.within, length-map p.slots.records seen) in
    let v : State = state_of c.vacate.new.self in
    let whole : complete (after_segment o.progress u) ≡ true = sym (c.if-is_complete.ensures ∙ ap complete c.take.ensures.after) in
    let there = held_by s k o u c.requires lt v (all_seen c.on.new.self) (c.vacate.ensures ∙ ap (λ n. vacate (named n) s) c.name_at-name.ensures) whole (c.on.ensures.seen ∙ ap (λ j. set v.slots j (moved (slides.segment u) (get_or v.slots j free))) c.get.ensures.0) in
    there ∙ sym (cond-true (complete (after_segment o.progress u)) (put k (held (slide_of (more o u))) (vacate (named o.image.name) (put k (arriving (more o u)) s))) (put k (arriving (more o u)) s) whole)

pub returns-then-is_complete-clause-holds : goal.returns-then-is_complete-clause-holds
returns-then-is_complete-clause-holds c =
    let p = c.args.self.now in
    let s : State = state_of p in
    let k = c.args.k.index in
    let u = c.args.segment in
    let o : Object = object_at p k c.args.arrival in
    let lt : k < length s.slots = omega (arith, p.slots.twelve, c.args.k.within, length-map p.slots.records seen) in
    let v : State = state_of c.vacate.new.self in
    let whole : complete (after_segment o.progress u) ≡ true = sym (c.if-is_complete.ensures ∙ ap complete c.take.ensures.after) in
    let there = held_by s k o u c.requires lt v (all_seen c.on.new.self) (c.vacate.ensures ∙ ap (λ n. vacate (named n) s) c.name_at-name.ensures) whole (c.on.ensures.seen ∙ ap (λ j. set v.slots j (moved (slides.segment u) (get_or v.slots j free))) c.get.ensures.0) in
    let f : State = put k (held (slide_of (more o u))) (vacate (named o.image.name) (put k (arriving (more o u)) s)) in
    let j = slot_next s k o u c.requires lt (sound_of p) in
    (ap (λ (x : State). any (numbered o.number) x.slots) there ∙ (ap (λ n. any (numbered n) f.slots) (sym (ap number_in j)) ∙ held_number f k (slide_of (more o u)) j), ap (λ (x : State). is_held (slot_at x k)) there ∙ ap is_held j)

pub invariant_of-self-2 : goal.invariant_of-self-2
invariant_of-self-2 c =
    let p = c.args.self.now in
    let s : State = state_of p in
    let k = c.args.k.index in
    let u = c.args.segment in
    let o : Object = object_at p k c.args.arrival in
    let lt : k < length s.slots = omega (arith, p.slots.twelve, c.args.k.within, length-map p.slots.records seen) in
    let part : complete (after_segment o.progress u) ≡ false = sym (c.if-is_complete.ensures ∙ ap complete c.take.ensures.after) in
    let there = c.on-2.ensures.seen ∙ ap (λ j. set s.slots j (moved (slides.segment u) (get_or s.slots j free))) c.get-2.ensures.0 ∙ ap (λ z. set s.slots k (moved (slides.segment u) z)) c.requires ∙ ap (set s.slots k) (moved_on o u part) in
    record { sound = kept_sound _ (put k (arriving (more o u)) s) (ap (λ xs. holding xs s.waiting s.places s) there) (sound_arrived s k o u c.requires lt (sound_of p)) }
