use Rattle.std.proofs.Common.{take, sym, subst}
use Rattle.shelf.specs.Laws.{Next}
use Rattle.shelf.proofs.Ordered.{next}
use Rattle.shelf.proofs.questions.first_above.Goals as goal

pub returns-clause-law : goal.returns-clause-law
returns-clause-law g c = λ up.
    let value = rw c.listed.ensures.value at c.first_past.ensures in
    let k = c.args.key.now in
    let xs = take c.args.used c.args.entries.now in
    subst (Next g.K.Ord.cmp k xs) (sym value) (next g.met.K.Ord.total k xs up)
