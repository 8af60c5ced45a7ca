use Rattle.std.proofs.Common.{ℕ, true, false, Some, sym, ap, ◌∙◌}
use Rattle.header.specs.Finds.{name_of_label}
use Rattle.header.specs.Headers.{record_of}
use Rattle.receiver.proofs.Repeats.{held_finds, new_finds, held_tells}
use Rattle.receiver.proofs.Updated.{versioned_held}
use Rattle.receiver.specs.Views.{state_of, world_of}
use Rattle.rules.specs.Worlds.{World}
use Rattle.rules.specs.declared.answers.Answer.TheVariants.{Repeat}
use Rattle.slots.specs.Slides.{sent_under}
use Rattle.receiver.proofs.parts.Parts.image_heard.Goals as goal

pub returns-then-passes-clause-steps : goal.returns-then-passes-clause-steps
returns-then-passes-clause-steps c =
    λ m memory.
    let t = c.args.transport in
    let w : World = world_of c.args.self.now memory m in
    held_finds w t (record_of c.args.header.now) c.version_of.result c.version_of.ensures c.in-Some.k.index true c.in-Some.ensures (c.if-passes.ensures ∙ ap (sent_under t) c.at.ensures.seen)
    ∙ sym (ap (λ (n : ℕ). (Repeat n, w)) c.number_at.ensures)

pub returns-in-Some-clause-steps : goal.returns-in-Some-clause-steps
returns-in-Some-clause-steps c =
    λ m memory.
    let t = c.args.transport in
    held_finds (world_of c.args.self.now memory m) t (record_of c.args.header.now) c.version_of.result c.version_of.ensures c.in-Some.k.index false c.in-Some.ensures (c.if-passes.ensures ∙ ap (sent_under t) c.at.ensures.seen)

pub returns-in-Some-clause-tells : goal.returns-in-Some-clause-tells
returns-in-Some-clause-tells c =
    λ m memory.
    let t = c.args.transport in
    held_tells (world_of c.args.self.now memory m) t (record_of c.args.header.now) c.version_of.result c.version_of.ensures c.in-Some.k.index false c.in-Some.ensures (c.if-passes.ensures ∙ ap (sent_under t) c.at.ensures.seen)

pub returns-in-Some-clause-fits : goal.returns-in-Some-clause-fits
returns-in-Some-clause-fits c =
    versioned_held (state_of c.args.self.now) (name_of_label c.args.header.now.name) c.version_of.result c.in-Some.k.index c.args.transport (sym c.in-Some.ensures)

pub returns-in-Some-find-clause-steps : goal.returns-in-Some-find-clause-steps
returns-in-Some-find-clause-steps c =
    λ m memory.
    let w : World = world_of c.args.self.now memory m in
    new_finds w c.args.transport (record_of c.args.header.now) c.version_of.result c.version_of.ensures (Some c.in-Some-find.k.index) c.in_default.ensures c.in-Some-find.ensures
    ∙ sym (ap (λ (n : ℕ). (Repeat n, w)) c.number_at-in-Some-find.ensures)
