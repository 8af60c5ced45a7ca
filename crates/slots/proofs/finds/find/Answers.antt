use Rattle.std.proofs.Common.{rules, ◌≡◌, ◌∙◌}
use Rattle.std.proofs.lemmas.Iterator.{YieldsList-from_slice}
use Rattle.std.proofs.lemmas.Iterator.Search.{position_from_yields_List}
use Rattle.std.specs.List.{position}
use Rattle.slots.specs.Seen.{seen}
use Rattle.slots.proofs.Searched.{position_found}
use Rattle.slots.proofs.finds.find.Goals as goal

pub returns-clause-value : goal.returns-clause-value
returns-clause-value g c =
    let test = g.T.SlotTest.test c.args.test.now in
    let found : c.position.result ≡ position (λ x. test (seen x)) c.args.records.now = position_from_yields_List (λ x. test (seen x)) _ _ _ c.position.ensures.ran (YieldsList-from_slice _ c.iter.ensures.rest) (λ x b q h. search rules) in
    found ∙ position_found seen test c.args.records.now
