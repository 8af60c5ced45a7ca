use Rattle.std.proofs.Common.{rules, leb, filter, ap, ◌∙◌}
use Rattle.receiver.proofs.Insides.{sound_of, kept_sound}
use Rattle.receiver.proofs.Timed.{prepares}
use Rattle.receiver.specs.States.{state_from}
use Rattle.receiver.specs.Views.{state_of, world_of}
use Rattle.rules.proofs.Sounds.{sound_vacate, sound_filtered}
use Rattle.rules.specs.Worlds.{State, World, vacate, holding}
use Rattle.slots.specs.Slides.{ends}
use Rattle.receiver.proofs.parts.Parts.prepare.Goals as goal

pub invariant_of-self : goal.invariant_of-self
invariant_of-self c =
    let p = c.args.self.now in
    let s : State = state_of p in
    let t = c.args.moment in
    let v : State = state_of c.vacate.new.self in
    let u : State = vacate (ends t) s in
    record { sound = kept_sound _ (holding u.slots (filter (λ e. leb t e.key) u.waiting) u.places u) (ap (λ ws. holding v.slots ws v.places v) c.keep.ensures ∙ ap (λ x. holding x.slots (filter (λ e. leb t e.key) x.waiting) x.places x) c.vacate.ensures) (sound_filtered (λ e. leb t e.key) u (sound_vacate (ends t) s (sound_of p))) }

pub returns : goal.returns
returns c =
    λ m memory.
    let w = world_of c.args.self.now memory m in
    let v = c.vacate.new.self in
    let u : World = record { state = state_from v.clock v.given v.recent v.room v.slots c.keep.new.self v.places; memory = memory; display = m } in
    prepares c.args.moment w u (search rules)
