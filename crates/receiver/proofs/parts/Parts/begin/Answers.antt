use Rattle.std.proofs.Common.{rules, ◌+◌}
use Rattle.receiver.proofs.Insides.{sound_of, kept_sound}
use Rattle.header.specs.Headers.{record_of}
use Rattle.receiver.specs.States.{state_from}
use Rattle.receiver.specs.Views.{state_of}
use Rattle.rules.proofs.Sounds.{sound_begun}
use Rattle.rules.specs.Headers.{begun}
use Rattle.rules.specs.Worlds.{State}
use Rattle.slots.specs.Slides.{image_of}
use Rattle.receiver.proofs.parts.Parts.begin.Goals as goal

pub invariant_of-self : goal.invariant_of-self
invariant_of-self c =
    let p = c.args.self.now in
    let s : State = state_of p in
    let k = c.args.k in
    let i = image_of (record_of c.args.header.now) in
    record { sound = kept_sound (state_from p.clock (p.given + 1) k p.room c.take.new.self c.keep.new.self c.forget.new.places) (begun k.index c.args.transport i s) (search rules) (sound_begun s k.index c.args.transport i (sound_of p) k.within c.requires.fits.0 c.requires.fits.1 c.requires.lasts) }
