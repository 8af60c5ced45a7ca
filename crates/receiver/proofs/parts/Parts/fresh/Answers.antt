use Rattle.receiver.proofs.Insides.{kept_sound}
use Rattle.receiver.proofs.Keeps.{sound_fresh}
use Rattle.receiver.specs.Views.{fresh_state}
use Rattle.receiver.proofs.parts.Parts.fresh.Goals as goal

pub invariant_of-result : goal.invariant_of-result
invariant_of-result c =
    record { sound = kept_sound _ (fresh_state c.args.room) (λ i. record { clock = 0; given = 0; recent = c.last.ensures i; room = c.args.room; slots = c.new.ensures.seen i; waiting = c.new-2.ensures i; places = c.new-3.ensures i }) (sound_fresh c.args.room) }
