use Rattle.std.proofs.Common.{not, leb, ap, ◌∙◌}
use Rattle.receiver.proofs.Insides.{sound_of, kept_sound}
use Rattle.receiver.proofs.Keeps.{sound_passes}
use Rattle.receiver.specs.Views.{state_of}
use Rattle.rules.proofs.Sounds.{sound_filtered}
use Rattle.rules.specs.Passes.{undue, at_clock}
use Rattle.rules.specs.Worlds.{State, vacate, holding}
use Rattle.slots.specs.Slides.{ends}
use Rattle.receiver.proofs.parts.Parts.pass.Goals as goal

pub invariant_of-self : goal.invariant_of-self
invariant_of-self c =
    let p = c.args.self.now in
    let s : State = state_of p in
    record { sound = kept_sound _ (undue c.args.moment s) (ap (λ ws. holding s.slots ws s.places s) c.keep.ensures) (sound_filtered (λ e. not (leb e.key c.args.moment)) s (sound_of p)) }

pub invariant_of-self-2 : goal.invariant_of-self-2
invariant_of-self-2 c =
    let p = c.args.self.now in
    let s : State = state_of p in
    let t = c.args.moment in
    record { sound = kept_sound _ (at_clock t (vacate (ends t) (undue t s))) (ap (at_clock t) (c.vacate.ensures ∙ ap (λ ws. vacate (ends t) (holding s.slots ws s.places s)) c.keep.ensures)) (sound_passes t s (sound_of p)) }
