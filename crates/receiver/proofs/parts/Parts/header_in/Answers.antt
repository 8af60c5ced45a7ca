use Rattle.std.proofs.Common.{◌*◌, length}
use Rattle.header.specs.Headers.{seen}
use Rattle.receiver.proofs.Headed.{header_misfit, header_says, header_misfit_tells, header_says_tells}
use Rattle.receiver.specs.Views.{world_of}
use Rattle.std.proofs.lemmas.Bool.{eq-eqb, ne_eqb}
use Rattle.std.proofs.lemmas.Result.{err_from_is_err_and}
use Rattle.receiver.proofs.parts.Parts.header_in.Goals as goal

pub returns-in_err-admit-clause-steps : goal.returns-in_err-admit-clause-steps
returns-in_err-admit-clause-steps c =
    λ m t.
    let p = err_from_is_err_and c.from_residual.result c.from_residual.ensures.1 in
    rw (p.1, p.2, c.in_err-admit.ensures.1) (header_misfit (world_of c.args.self.now c.args.memory.now m) t c.args.bytes.now (ne_eqb (length c.args.memory.now) (12 * c.args.self.now.room) c.in_err-admit.ensures.0))

pub returns-in_err-admit-clause-tells : goal.returns-in_err-admit-clause-tells
returns-in_err-admit-clause-tells c =
    λ m t.
    let p = err_from_is_err_and c.from_residual.result c.from_residual.ensures.1 in
    rw (p.1) (header_misfit_tells (world_of c.args.self.now c.args.memory.now m) t c.args.bytes.now (ne_eqb (length c.args.memory.now) (12 * c.args.self.now.room) c.in_err-admit.ensures.0))

pub returns-clause-steps : goal.returns-clause-steps
returns-clause-steps c =
    λ m t.
    header_says (world_of c.args.self.now c.args.memory.now m) t c.args.bytes.now (seen c.read_header.result) (eq-eqb (length c.args.memory.now) (12 * c.args.self.now.room) c.in_ok-admit.ensures) c.read_header.ensures.value

pub returns-clause-tells : goal.returns-clause-tells
returns-clause-tells c =
    λ m t.
    header_says_tells (world_of c.args.self.now c.args.memory.now m) t c.args.bytes.now (seen c.read_header.result) (eq-eqb (length c.args.memory.now) (12 * c.args.self.now.room) c.in_ok-admit.ensures) c.read_header.ensures.value
