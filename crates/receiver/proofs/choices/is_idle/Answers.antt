use Rattle.std.proofs.Common.{rules, ◌≡◌, not, eqb, ◌∙◌}
use Rattle.std.proofs.lemmas.Iterator.{YieldsList-from_slice}
use Rattle.std.proofs.lemmas.Iterator.Search.{all_from_yields_List}
use Rattle.std.specs.List.{list_all}
use Rattle.receiver.proofs.Oldest.{idle_all}
use Rattle.receiver.proofs.choices.is_idle.Goals as goal

pub returns : goal.returns
returns c =
    let k = c.args.k in
    let all : c.all.result ≡ list_all (λ e. not (eqb e.load k)) c.args.waiting.now = all_from_yields_List (λ e. not (eqb e.load k)) _ _ _ c.all.ensures.ran (YieldsList-from_slice _ c.iter.ensures.rest) (λ x b q h. search rules) in
    all ∙ idle_all k c.args.waiting.now
