use Rattle.std.proofs.Common.{get_or, set, ap, ◌∙◌}
use Rattle.receiver.proofs.Insides.{sound_of, kept_sound}
use Rattle.receiver.proofs.Keeps.{held_in}
use Rattle.receiver.specs.Views.{state_of}
use Rattle.rules.proofs.Sounds.{sound_transport}
use Rattle.rules.specs.Headers.{with_transport}
use Rattle.rules.specs.Worlds.{State, slot_at, holding}
use Rattle.slots.specs.Slides as slides
use Rattle.slots.specs.Slides.{free, moved}
use Rattle.receiver.proofs.parts.Parts.resend.Goals as goal

pub invariant_of-self : goal.invariant_of-self
invariant_of-self c =
    let s : State = state_of c.args.self.now in
    let k = c.args.k.index in
    let t = c.args.transport in
    let (x, i) = held_in (slot_at s k) c.requires in
    let again = c.on.ensures.seen ∙ ap (λ j. set s.slots j (moved (slides.resent t) (get_or s.slots j free))) c.get.ensures.0 in
    record { sound = kept_sound _ (with_transport k t s) (ap (λ xs. holding xs s.waiting s.places s) again) (sound_transport s k t x i c.args.k.within (sound_of c.args.self.now)) }
