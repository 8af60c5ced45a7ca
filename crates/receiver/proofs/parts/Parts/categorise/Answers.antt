use Rattle.std.proofs.Common.{is_ok, Some, None, sym, ap, ◌∙◌}
use Rattle.rack.specs.Listed.{filed}
use Rattle.receiver.proofs.Insides.{sound_of, kept_sound}
use Rattle.receiver.proofs.Keeps.{sound_in_category}
use Rattle.receiver.proofs.Placed.{put_in}
use Rattle.receiver.specs.Views.{state_of}
use Rattle.rules.specs.Worlds.{State, holding, in_category}
use Rattle.receiver.proofs.parts.Parts.categorise.Goals as goal

pub invariant_of-self : goal.invariant_of-self
invariant_of-self c =
    let p = c.args.self.now in
    let s : State = state_of p in
    record { sound = kept_sound _ (holding s.slots s.waiting (in_category None c.args.number s.places) s) (ap (λ ps. holding s.slots s.waiting ps s) c.keep.ensures) (sound_in_category None c.args.number s (sound_of p) c.requires) }

pub invariant_of-self-in-Some : goal.invariant_of-self-in-Some
invariant_of-self-in-Some c =
    let p = c.args.self.now in
    let s : State = state_of p in
    let there = put_in s (sound_of p) c.args.number c.requires c.in-Some.category c.into.result (is_ok c.put.result) (filed c.keep-in-Some.new.self) (filed c.put.new.self) c.into.ensures c.keep-in-Some.ensures c.put.ensures.room c.put.ensures.list in
    record { sound = kept_sound _ (holding s.slots s.waiting (in_category (Some c.in-Some.category) c.args.number s.places) s) (ap (λ ps. holding s.slots s.waiting ps s) there) (sound_in_category (Some c.in-Some.category) c.args.number s (sound_of p) c.requires) }

pub returns-in-Some : goal.returns-in-Some
returns-in-Some c =
    let p = c.args.self.now in
    let s : State = state_of p in
    let there = put_in s (sound_of p) c.args.number c.requires c.in-Some.category c.into.result (is_ok c.put.result) (filed c.keep-in-Some.new.self) (filed c.put.new.self) c.into.ensures c.keep-in-Some.ensures c.put.ensures.room c.put.ensures.list in
    ap (λ ps. holding s.slots s.waiting ps s) there
    ∙ ap (λ o. holding s.slots s.waiting (in_category o c.args.number s.places) s) (sym c.in-Some.is)
