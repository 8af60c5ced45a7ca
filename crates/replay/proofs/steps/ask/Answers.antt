use Rattle.std.proofs.Common.{rules}
use Rattle.replay.proofs.Stepped.{byte_is}
use Rattle.rules.specs.Runs.{step}
use Rattle.replay.proofs.steps.ask.Goals as goal

pub returns-in-FindName-clause-replied : goal.returns-in-FindName-clause-replied
unfolding step
returns-in-FindName-clause-replied g c = let e = c.find_name.ensures c.args.memory.now in search rules

pub returns-in-NextPlace-clause-replied : goal.returns-in-NextPlace-clause-replied
unfolding step
returns-in-NextPlace-clause-replied g c = let e = c.next_place.ensures c.args.memory.now in search rules

pub returns-in-Card-clause-replied : goal.returns-in-Card-clause-replied
unfolding step
returns-in-Card-clause-replied g c = let e = c.card.ensures c.args.memory.now in search rules

pub returns-in-SlotSize-clause-replied : goal.returns-in-SlotSize-clause-replied
unfolding step
returns-in-SlotSize-clause-replied g c = let e = c.slot_size.ensures c.args.memory.now in search rules

pub returns-in-CardByte-clause-replied : goal.returns-in-CardByte-clause-replied
unfolding step
returns-in-CardByte-clause-replied g c =
    let e = byte_is _ _ _ (c.card_byte.ensures c.args.memory.now) in search rules
