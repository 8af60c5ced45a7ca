use Rattle.std.proofs.Common.{rules, ap, ◌∙◌, get_or}
use Rattle.std.proofs.lemmas.Iterator.Search.{find_from_yields_List}
use Rattle.slots.specs.Seen.{all_seen, index_of}
use Rattle.slots.specs.Slides.{free, is_free}
use Rattle.slots.proofs.Searched.{YieldsList-round, round_found}
use Rattle.slots.proofs.records.Slots.free_from.Goals as goal

pub returns : goal.returns
returns c =
    let xs = all_seen c.args.self.now in
    find_from_yields_List (λ j. is_free (get_or xs j free)) _ _ _ c.find.ensures.ran (YieldsList-round _ c.successors.new.f (λ x o q h. search rules) c.args.n c.args.k.index c.take.result c.take.ensures.count (ap (λ s. s.f) c.take.ensures.source ∙ c.successors.ensures.closure) (ap (λ s. index_of s.item) c.take.ensures.source ∙ ap index_of c.successors.ensures.item)) (λ x b q h. search rules) ∙ round_found xs c.args.n c.args.k.index
