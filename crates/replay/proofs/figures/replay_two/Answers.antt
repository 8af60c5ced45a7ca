use Rattle.std.proofs.Common.{◌∙◌, arith}
use Rattle.std.proofs.lemmas.Result.{IfOk-weaker}
use Rattle.replay.proofs.Filmed.{filmed}
use Rattle.replay.proofs.figures.replay_two.Goals as goal

pub returns : goal.returns
returns c long none =
    let f = c.args.film in
    IfOk-weaker c.replay_film.result _ _ (λ g h. h ∙ filmed f.tape.items (omega (arith, f.tape.ok.0, long)) f.last none) c.replay_film.ensures.taped
