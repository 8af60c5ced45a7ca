use Rattle.std.proofs.Common.{◌*◌, length, sym, ap, subst, ◌∙◌}
use Rattle.receiver.proofs.Segmented.{refusal_given, segment_misfit, none_arrives, no_object, object_takes}
use Rattle.receiver.specs.Arrivals.{Arrives, object_at}
use Rattle.receiver.specs.Views.{world_of}
use Rattle.slots.specs.Seen.{index_of}
use Rattle.std.proofs.lemmas.Bool.{eq-eqb, ne_eqb}
use Rattle.std.proofs.lemmas.Result.{err_from_is_err_and}
use Rattle.receiver.proofs.parts.Parts.arriving.Goals as goal

pub returns-in_err-admit-clause-steps : goal.returns-in_err-admit-clause-steps
returns-in_err-admit-clause-steps c =
    λ m.
    let p = err_from_is_err_and c.from_residual.result c.from_residual.ensures.1 in
    rw (p.1, p.2, c.in_err-admit.ensures.1) (λ n last xs. segment_misfit (world_of c.args.self.now c.args.memory.now m) c.args.transport n last xs (ne_eqb (length c.args.memory.now) (12 * c.args.self.now.room) c.in_err-admit.ensures.0))

pub returns-in_err-k-clause-steps : goal.returns-in_err-k-clause-steps
returns-in_err-k-clause-steps c =
    λ m.
    let p = err_from_is_err_and c.from_residual-in_err-k.result c.from_residual-in_err-k.ensures.1 in
    rw (p.1, p.2, refusal_given c.find.result _ _ c.in_err-k.ensures.value c.in_err-k.ensures.ok_part) (λ n last xs. none_arrives (world_of c.args.self.now c.args.memory.now m) c.args.transport n last xs (eq-eqb (length c.args.memory.now) (12 * c.args.self.now.room) c.in_ok-admit.ensures) (ap index_of (sym c.in_err-k.ensures.ok_part) ∙ c.find.ensures))

pub returns-in_err-arrival-clause-steps : goal.returns-in_err-arrival-clause-steps
returns-in_err-arrival-clause-steps c =
    λ m.
    let p = err_from_is_err_and c.from_residual-in_err-arrival.result c.from_residual-in_err-arrival.ensures.1 in
    rw (p.1, p.2, refusal_given c.arrival_at.result _ _ c.in_err-arrival.ensures.value c.in_err-arrival.ensures.ok_part) (λ n last xs. no_object (world_of c.args.self.now c.args.memory.now m) c.args.transport n last xs c.in_ok-k.k.index (eq-eqb (length c.args.memory.now) (12 * c.args.self.now.room) c.in_ok-admit.ensures) (ap index_of (sym c.in_ok-k.ensures.ok_part) ∙ c.find.ensures) (subst (Arrives c.args.self.now c.in_ok-k.k.index) c.in_err-arrival.ensures.ok_part c.arrival_at.ensures))

pub returns-clause-slot : goal.returns-clause-slot
returns-clause-slot c =
    subst (Arrives c.args.self.now c.in_ok-k.k.index) c.in_ok-arrival.ensures.ok_part c.arrival_at.ensures

pub returns-clause-steps : goal.returns-clause-steps
returns-clause-steps c =
    λ m n last xs.
    object_takes (world_of c.args.self.now c.args.memory.now m) c.args.transport n last xs c.in_ok-k.k.index (object_at c.args.self.now c.in_ok-k.k.index c.in_ok-arrival.arrival) (eq-eqb (length c.args.memory.now) (12 * c.args.self.now.room) c.in_ok-admit.ensures) (ap index_of (sym c.in_ok-k.ensures.ok_part) ∙ c.find.ensures) (subst (Arrives c.args.self.now c.in_ok-k.k.index) c.in_ok-arrival.ensures.ok_part c.arrival_at.ensures)
