use Rattle.std.proofs.Common.{Bool, not, ◌&&◌, is_some, sym, ap, ◌∙◌}
use Rattle.slots.specs.Seen.{all_seen}
use Rattle.slots.specs.Slides.{Slot, numbered}
use Rattle.receiver.proofs.Looks.{found_any, index_some, turned}
use Rattle.receiver.proofs.sieves.StayingEntryTestTuple2U8U8.passes.Goals as goal

pub returns : goal.returns
returns g c =
    let both : Slot → Bool = λ x. g.T.SlotTest.test c.args.self.now.test.now x && numbered c.args.entry.now.load x in
    turned _ _ c.is_none.ensures ∙ ap not (sym (index_some c.find.result) ∙ ap is_some c.find.ensures ∙ found_any both 0 (all_seen c.args.self.now.slots.now))
