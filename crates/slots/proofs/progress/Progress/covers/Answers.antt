use Rattle.std.proofs.Common.{rules, refl, ◌∙◌, arith}
use Rattle.std.proofs.lemmas.Iterator.{YieldsList-from_range}
use Rattle.std.proofs.lemmas.Iterator.Search.{all_from_yields_List}
use Rattle.slots.proofs.Numbers.{covers_up}
use Rattle.slots.specs.Segments.{has}
use Rattle.slots.proofs.progress.Progress.covers.Goals as goal

pub returns : goal.returns
returns c =
    let n = c.args.n in
    let taken = c.args.self.now.taken in
    all_from_yields_List (λ i. has i taken) _ _ _ c.all.ensures.ran (YieldsList-from_range 0 n n refl (omega arith)) (λ x b q h. search rules)
    ∙ covers_up n taken
