-- There are twelve slots.
use Rattle.std.proofs.Common.{◌≡◌, length, ◌∙◌}
use Rattle.std.proofs.lemmas.List.{length-map}
use Rattle.slots.specs.Seen.{seen, label, all_seen, all_names}
use Rattle.slots.specs.declared.records.Slots.{Slots}

-- twelve are seen, one for each record
pub twelve_seen : (s : Slots) → length (all_seen s) ≡ 12
twelve_seen s = length-map s.records seen ∙ s.twelve

-- and twelve names, also of free ones
pub twelve_names : (s : Slots) → length (all_names s) ≡ 12
twelve_names s = length-map s.records label ∙ s.twelve
