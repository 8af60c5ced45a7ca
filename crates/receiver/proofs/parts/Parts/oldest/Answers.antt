use Rattle.std.proofs.Common.{rules, refl, sym, ◌∙◌}
use Rattle.std.proofs.lemmas.Iterator.{YieldsList-from_range}
use Rattle.std.proofs.lemmas.Iterator.Consumers.{YieldsList-at, YieldsList-from_filter}
use Rattle.std.proofs.lemmas.List.{length-map}
use Rattle.receiver.specs.Views.{state_of}
use Rattle.rules.specs.Worlds.{State}
use Rattle.slots.specs.Seen.{seen}
use Rattle.receiver.proofs.Oldest.{YieldsList-indices, least_found, may_go, oldest_least}
use Rattle.receiver.proofs.parts.Parts.oldest.Goals as goal

pub returns : goal.returns
returns c =
    let s : State = state_of c.args.self.now in
    let slots = c.args.self.now.slots in
    least_found s _ _ _ (λ x n q h. search rules) _ _ _ c.min_by_key.ensures.ran (YieldsList-from_filter _ (may_go s) (YieldsList-at c.filter.ensures.source (YieldsList-indices _ _ _ (λ x o q h. search rules) c.filter_map.result (YieldsList-at c.filter_map.ensures.source (YieldsList-from_range 0 12 12 refl refl)) c.filter_map.ensures.closure)) c.filter.ensures.closure (λ x b q h. search rules))
    ∙ sym (oldest_least s (length-map slots.records seen ∙ slots.twelve))
