use Rattle.std.proofs.Common.{is_ok, ◌≡◌, ◌<◌, ◌≤◌, true, not, eqb, length, sym, ap, ◌∙◌}
use Rattle.rack.specs.Listed.{triggers}
use Rattle.receiver.proofs.Insides.{sound_of, kept_sound}
use Rattle.receiver.proofs.Keeps.{sound_waits}
use Rattle.receiver.proofs.Room.{put_there}
use Rattle.receiver.specs.Verdicts.{verdict_of}
use Rattle.receiver.specs.Views.{state_of, world_of}
use Rattle.rules.proofs.Rooms.{waiting_room}
use Rattle.rules.proofs.Sounds.{sound_filtered}
use Rattle.rules.specs.Headers.{is_held}
use Rattle.rules.specs.Triggers.{wait}
use Rattle.rules.specs.Worlds.{State, World, slot_at, holding, undone, with_state, armed}
use Rattle.shelf.specs.Kinds.{by_moment}
use Rattle.shelf.specs.Places.{shelved}
use Rattle.receiver.proofs.parts.Parts.arm.Goals as goal

pub invariant_of-self : goal.invariant_of-self
invariant_of-self g c =
    let p = c.args.self.now in
    let s : State = state_of p in
    record { sound = kept_sound _ (holding s.slots (undone c.from-slot.result s) s.places s) (ap (λ ws. holding s.slots ws s.places s) c.keep.ensures) (sound_filtered (λ e. not (eqb e.load c.from-slot.result)) s (sound_of p)) }

pub invariant_of-self-in-Effect : goal.invariant_of-self-in-Effect
invariant_of-self-in-Effect g c =
    let p = c.args.self.now in
    let s : State = state_of p in
    record { sound = kept_sound _ (holding s.slots (undone c.from-slot.result s) s.places s) (ap (λ ws. holding s.slots ws s.places s) c.keep-in-Effect.ensures) (sound_filtered (λ e. not (eqb e.load c.from-slot.result)) s (sound_of p)) }

pub invariant_of-self-in-Wait : goal.invariant_of-self-in-Wait
invariant_of-self-in-Wait g c =
    let p = c.args.self.now in
    let s : State = state_of p in
    let k = c.from-slot.result in
    let xs = triggers c.keep-in-Wait.new.self in
    let lt : k < 12 = rw c.from-slot.ensures c.args.k.within in
    let few : length xs ≤ 11 = rw c.keep-in-Wait.ensures (waiting_room s (sound_of p) k lt) in
    let put = shelved by_moment (record { key = c.in-Wait.moment; load = k }) in
    let there = put_there (is_ok c.put.result) xs (put xs) (triggers c.put.new.self) c.put.ensures.room c.put.ensures.list few in
    let is : is_held (slot_at s k) ≡ true = ap (λ j. is_held (slot_at s j)) c.from-slot.ensures ∙ c.requires in
    record { sound = kept_sound _ (holding s.slots (put (undone k s)) s.places s) (ap (λ ws. holding s.slots ws s.places s) (there ∙ ap put c.keep-in-Wait.ensures)) (sound_waits s c.in-Wait.moment k c.args.trigger (sound_of p) is (sym (ap verdict_of c.in-Wait.is) ∙ c.at-verdict.ensures)) }

pub returns-in-Wait-clause-world : goal.returns-in-Wait-clause-world
returns-in-Wait-clause-world g c =
    let s : State = state_of c.args.self.now in
    let w : World = world_of c.args.self.now c.args.memory.now (g.D.Display.meaning c.args.display.now) in
    let k = c.from-slot.result in
    let xs = triggers c.keep-in-Wait.new.self in
    let lt : k < 12 = rw c.from-slot.ensures c.args.k.within in
    let few : length xs ≤ 11 = rw c.keep-in-Wait.ensures (waiting_room s (sound_of c.args.self.now) k lt) in
    let put = shelved by_moment (record { key = c.in-Wait.moment; load = k }) in
    let there = put_there (is_ok c.put.result) xs (put xs) (triggers c.put.new.self) c.put.ensures.room c.put.ensures.list few in
    ap (λ ws. with_state (holding s.slots ws s.places s) w) (there ∙ ap put c.keep-in-Wait.ensures)
    ∙ ap (λ j. armed (wait c.in-Wait.moment) j w) c.from-slot.ensures
