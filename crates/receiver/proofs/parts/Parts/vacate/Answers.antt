use Rattle.std.proofs.Common.{is_some, sym, ap, ◌∙◌}
use Rattle.receiver.proofs.Insides.{sound_of, kept_sound}
use Rattle.rules.proofs.Sounds.{sound_vacate}
use Rattle.rules.specs.Worlds.{State, vacate}
use Rattle.receiver.proofs.Looks.{none_leaves, index_some}
use Rattle.receiver.specs.Views.{state_of}
use Rattle.receiver.proofs.parts.Parts.vacate.Goals as goal

pub invariant_of-self-2 : goal.invariant_of-self-2
invariant_of-self-2 g c =
    let p = c.args.self.now in
    let s : State = state_of p in
    let test = g.T.SlotTest.test c.args.test.now in
    record { sound = kept_sound _ (vacate test s) (λ i. record { clock = s.clock; given = s.given; recent = s.recent; room = s.room; slots = c.clear.ensures.seen i; waiting = c.keep.ensures i; places = c.keep-2.ensures i }) (sound_vacate test s (sound_of p)) }

pub returns-then-is_none : goal.returns-then-is_none
returns-then-is_none g c =
    sym (none_leaves (g.T.SlotTest.test c.args.test.now) c.requires (state_of c.args.self.now) (ap is_some (sym c.find.ensures) ∙ index_some c.find.result ∙ c.if-is_none.ensures))
