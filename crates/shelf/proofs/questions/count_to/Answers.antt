use Rattle.std.proofs.Common.{take, sym, subst}
use Rattle.shelf.specs.Laws.{Reach}
use Rattle.shelf.proofs.Ordered.{reach}
use Rattle.shelf.proofs.questions.count_to.Goals as goal

pub returns-clause-law : goal.returns-clause-law
returns-clause-law g c = λ up.
    let value = rw c.listed.ensures.value at c.place.ensures.value in
    subst (Reach g.K.Ord.cmp c.args.key.now (take c.args.used c.args.entries.now)) (sym value) (reach g.met.K.Ord.total c.args.key.now (take c.args.used c.args.entries.now) up)
