use Rattle.std.proofs.Common.{take, sym, subst}
use Rattle.shelf.specs.Places.{carries}
use Rattle.shelf.specs.Searches.{First}
use Rattle.shelf.proofs.Firsts.{first_is}
use Rattle.shelf.proofs.questions.find.Goals as goal

pub returns-clause-law : goal.returns-clause-law
returns-clause-law g c =
    let value = rw c.listed.ensures.value at c.first_of_load.ensures in
    let test = carries c.args.load in
    let xs = take c.args.used c.args.entries.now in
    subst (First test xs) (sym value) (first_is test xs)
