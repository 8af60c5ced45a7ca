use Rattle.std.proofs.Common.{◌≡◌, ℕ, ◌+◌, ◌*◌, ◌<◌, ◌≤◌, cond, List, length, sym, ap, ap₂, ◌∙◌, slice_index_or, arith}
use Rattle.header.specs.Kept.{no_name}
use Rattle.packed.specs.Parts.{pasted}
use Rattle.receiver.proofs.Insides.{sound_of}
use Rattle.receiver.proofs.Segmented.{lands_comes, lands_grown, lands_in_memory}
use Rattle.receiver.specs.Arrivals.{object_at, stored}
use Rattle.receiver.specs.Views.{state_of, world_of}
use Rattle.receiver.specs.declared.filings.Received.TheVariants.{Part, Whole}
use Rattle.rules.specs.Assembly.{segment_of, on_landing}
use Rattle.rules.specs.Effects.{landing_effects}
use Rattle.rules.specs.Worlds.{State, World}
use Rattle.slots.specs.Seen.{all_names}
use Rattle.slots.specs.Segments.{landing, complete, after_segment, grown}
use Rattle.slots.specs.Slides.{Object}
use Rattle.slots.specs.declared.progress.Landing.TheVariants.{Misfit, Again, At}
use Rattle.slots.specs.declared.progress.Progress.{Progress}
use Rattle.std.proofs.lemmas.Bool.{cond-true, le-leb}
use Rattle.receiver.proofs.parts.Parts.receive.Goals as goal

pub returns-in-Misfit-clause-receives : goal.returns-in-Misfit-clause-receives
returns-in-Misfit-clause-receives c =
    λ m.
    let w = world_of c.args.self.now c.args.memory.now m in
    let k = c.in_ok-k.k.index in
    let o : Object = object_at c.args.self.now k c.in_ok-k.arrival in
    let xs = c.args.sent.now.bytes.now in
    let u = segment_of c.args.sent.now.number c.args.sent.now.last xs in
    let h = c.in_ok-k.ensures.steps m c.args.sent.now.number c.args.sent.now.last xs in
    let lands : landing c.in_ok-k.arrival.progress u ≡ Misfit = sym (c.in-Misfit.ensures ∙ ap (landing c.in_ok-k.arrival.progress) c.from-segment.ensures) in
    (h.0 ∙ ap (λ l. on_landing l k o u xs w) lands, h.1 ∙ ap (λ l. landing_effects l k o u xs w) lands)

pub returns-in-Again-clause-receives : goal.returns-in-Again-clause-receives
returns-in-Again-clause-receives c =
    λ m.
    let w = world_of c.args.self.now c.args.memory.now m in
    let k = c.in_ok-k.k.index in
    let o : Object = object_at c.args.self.now k c.in_ok-k.arrival in
    let xs = c.args.sent.now.bytes.now in
    let u = segment_of c.args.sent.now.number c.args.sent.now.last xs in
    let h = c.in_ok-k.ensures.steps m c.args.sent.now.number c.args.sent.now.last xs in
    let lands : landing c.in_ok-k.arrival.progress u ≡ Again = sym (c.in-Again.ensures ∙ ap (landing c.in_ok-k.arrival.progress) c.from-segment.ensures) in
    (h.0 ∙ ap (λ l. on_landing l k o u xs w) lands, h.1 ∙ ap (λ l. landing_effects l k o u xs w) lands)

pub returns-in-At-clause-receives : goal.returns-in-At-clause-receives
returns-in-At-clause-receives c =
    λ m.
    let p = c.args.self.now in
    let w = world_of p c.args.memory.now m in
    let k = c.in_ok-k.k.index in
    let a = c.in_ok-k.arrival in
    let o : Object = object_at p k a in
    let xs = c.args.sent.now.bytes.now in
    let u = segment_of c.args.sent.now.number c.args.sent.now.last xs in
    let h = c.in_ok-k.ensures.steps m c.args.sent.now.number c.args.sent.now.last xs in
    let lands : At c.in-At.offset ≡ landing a.progress u = c.in-At.ensures ∙ ap (landing a.progress) c.from-segment.ensures in
    let grows : after_segment a.progress c.from-segment.result ≡ grown a.progress u = ap (after_segment a.progress) c.from-segment.ensures ∙ lands_grown a.progress u c.in-At.offset lands in
    let at = k * p.room + c.in-At.offset in
    let put_at = c.get.result * p.room + c.in-At.offset in
    let same : put_at ≡ at = ap (λ j. j * p.room + c.in-At.offset) c.get.ensures.0 in
    let lt : k < 12 = c.in_ok-k.k.within in
    let within : put_at + length xs ≤ length c.args.memory.now = omega (arith, same, lands_in_memory (state_of p) (sound_of p) k o c.in_ok-k.ensures.slot lt u c.in-At.offset lands, c.in_ok-k.ensures.fits) in
    let e : c.paste.new.memory ≡ pasted c.args.memory.now at xs =
    c.paste.ensures.after ∙ cond-true c.paste.result (pasted c.args.memory.now put_at xs) c.args.memory.now (c.paste.ensures.fits ∙ le-leb (put_at + length xs) (length c.args.memory.now) within) ∙ ap (λ i. pasted c.args.memory.now i xs) same in
    let s : State = state_of p in
    let become : State → List ℕ → World = λ x ys. record { state = x; memory = ys; display = m } in
    let comes = lands_comes w c.in_ok-k.k a (slice_index_or (all_names p.slots) k no_name) u c.in-At.offset xs c.lay.result (world_of c.lay.new.self c.paste.new.memory m) (c.lay.ensures.answer ∙ ap (λ (q : Progress). cond (complete q) (Whole c.in_ok-k.k a) (Part a.number)) grows) (ap₂ become (c.lay.ensures.state ∙ ap (λ (q : Progress). stored k o q s) grows) e) in
    (h.0 ∙ ap (λ l. on_landing l k o u xs w) (sym lands) ∙ comes.0, h.1 ∙ ap (λ l. landing_effects l k o u xs w) (sym lands) ∙ comes.1)
