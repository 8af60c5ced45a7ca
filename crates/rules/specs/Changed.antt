-- A worked run with changed headers: slide 1 is sent again under other TransportIds.
use Rattle.std.specs.Prelude.{◌≡◌, ℕ, true, List, [], ◌∷◌, ◌++◌, replicate, Some, None}
use Rattle.display.specs.Meaning as display
use Rattle.header.specs.Names.{NameRecord}
use Rattle.moment.specs.declared.times.Time.TheVariants.{At}
use Rattle.refusal.specs.declared.causes.Cause.TheVariants.{ExpiryNotAhead, NotArriving}
use Rattle.rules.specs.Assembly.{assembly_fault}
use Rattle.rules.specs.Calls.{Call, header, segment, time, next_place, body_of, card, answered, counted, placed, bytes, shows}
use Rattle.rules.specs.Headers.{receiver_fault}
use Rattle.rules.specs.Ledgers.{blank, ledger}
use Rattle.rules.specs.Runs.{opened, after, replies}
use Rattle.rules.specs.Worlds.{World}
use Rattle.rules.specs.declared.answers.Answer.TheVariants.{Taken, Repeat, Filed, Shown, Changed, Refused}
use Rattle.slots.specs.Slides.{free, arriving, held, arrival}

-- slots of 16 bytes over a panel of 16 bytes
abbrev pub changed_opening : World
changed_opening = opened (display.blank 16) 16 (replicate 192 0)

abbrev pub one_letter : ℕ → NameRecord
one_letter c = record { charset = 0; bytes = c ∷ [] }

-- at the start of day 60,000 slide "A" is filed under TransportId 7, with an expire time and a category, and "B" arrives under 9
abbrev pub sent_first : List Call
sent_first =
    time (0xBA ∷ 0x98 ∷ 0x08 ∷ 0x00 ∷ 0x00 ∷ 0x00 ∷ []) ∷ header 7 (0x00 ∷ 0x00 ∷ 0x00 ∷ 0x30 ∷ 0x0B ∷ 0x84 ∷ 0x01 ∷ 0xCC ∷ 0x02 ∷ 0x00 ∷ 0x41 ∷ 0xC4 ∷ 0x06 ∷ 0xBA ∷ 0x98 ∷ 0x08 ∷ 0x00 ∷ 0x04 ∷ 0x10 ∷ 0xE5 ∷ 0x02 ∷ 0x01 ∷ 0x02 ∷ []) ∷ segment 7 0 true (0x61 ∷ 0x62 ∷ 0x63 ∷ []) ∷ header 9 (0x00 ∷ 0x00 ∷ 0x00 ∷ 0x30 ∷ 0x05 ∷ 0x84 ∷ 0x01 ∷ 0xCC ∷ 0x02 ∷ 0x00 ∷ 0x42 ∷ []) ∷ []

-- a header of "A" that expires at the clock, and the one of "B" once more
abbrev pub sent_expired : List Call
sent_expired =
    header 9 (0x00 ∷ 0x00 ∷ 0x00 ∷ 0x30 ∷ 0x09 ∷ 0x84 ∷ 0x01 ∷ 0xCC ∷ 0x02 ∷ 0x00 ∷ 0x41 ∷ 0xC4 ∷ 0x06 ∷ 0xBA ∷ 0x98 ∷ 0x08 ∷ 0x00 ∷ 0x00 ∷ 0x00 ∷ []) ∷ header 9 (0x00 ∷ 0x00 ∷ 0x00 ∷ 0x30 ∷ 0x05 ∷ 0x84 ∷ 0x01 ∷ 0xCC ∷ 0x02 ∷ 0x00 ∷ 0x42 ∷ []) ∷ []

-- a header of "A", another kind of image with five bytes, no expire time, trigger Now and category 00 00; then what is left of "B"
abbrev pub sent_changed : List Call
sent_changed =
    header 9 (0x00 ∷ 0x00 ∷ 0x00 ∷ 0x50 ∷ 0x0A ∷ 0x04 ∷ 0x03 ∷ 0xCC ∷ 0x02 ∷ 0x00 ∷ 0x41 ∷ 0x85 ∷ 0x00 ∷ 0x00 ∷ 0x00 ∷ 0x00 ∷ 0xE5 ∷ 0x02 ∷ 0x00 ∷ 0x00 ∷ []) ∷ segment 9 0 true (0x61 ∷ 0x62 ∷ 0x63 ∷ []) ∷ next_place (0, 0) ∷ body_of 1 ∷ card ∷ []

-- a header of "A" under the same TransportId, then one under another with neither trigger nor category, and a header of "C"
abbrev pub sent_last : List Call
sent_last =
    header 9 (0x00 ∷ 0x00 ∷ 0x00 ∷ 0x30 ∷ 0x05 ∷ 0x84 ∷ 0x01 ∷ 0xCC ∷ 0x02 ∷ 0x00 ∷ 0x41 ∷ []) ∷ header 5 (0x00 ∷ 0x00 ∷ 0x00 ∷ 0x30 ∷ 0x05 ∷ 0x84 ∷ 0x01 ∷ 0xCC ∷ 0x02 ∷ 0x00 ∷ 0x41 ∷ []) ∷ header 8 (0x00 ∷ 0x00 ∷ 0x00 ∷ 0x30 ∷ 0x05 ∷ 0x84 ∷ 0x01 ∷ 0xCC ∷ 0x02 ∷ 0x00 ∷ 0x43 ∷ []) ∷ []

abbrev pub before_expired : World
before_expired = after changed_opening sent_first

abbrev pub before_changed : World
before_changed = after before_expired sent_expired

abbrev pub before_last : World
before_last = after before_changed sent_changed

abbrev pub all_sent : List Call
all_sent = sent_first ++ sent_expired ++ sent_changed ++ sent_last

-- the refused header drops nothing; the changed one drops "B", shows slide 1 and clears its category; what is left is slide 1 under
-- its last TransportId, as it was filed, a free slot where "B" arrived, and "C" in the slot behind that. The ledger has that one show
pub record ChangedHeaders : Type 0 where
  pub first : replies changed_opening sent_first ≡ counted 0 ∷ answered (Taken 1) ∷ answered (Filed 1) ∷ answered (Taken 2) ∷ []
  pub placed_first : replies before_expired (next_place (0, 0) ∷ []) ≡ placed (Some (record { key = (1, 2); load = 1 })) ∷ []
  pub expired : replies before_expired sent_expired ≡ answered (Refused (receiver_fault ExpiryNotAhead)) ∷ answered (Repeat 2) ∷ []
  pub changed : replies before_changed sent_changed ≡ answered (Shown 1) ∷ answered (Refused (assembly_fault NotArriving)) ∷ placed None ∷ bytes (0x61 ∷ 0x62 ∷ 0x63 ∷ []) ∷ shows (Some (record { accession = 1; since = 5184000000000; length = 3 })) ∷ []
  pub last : replies before_last sent_last ≡ answered (Repeat 1) ∷ answered (Changed 1) ∷ answered (Taken 3) ∷ []
  pub left : (after before_last sent_last).state.slots ≡ held (record { transport = 5; number = 1; name = one_letter 0x41; version = 0; expire = Some (At 5184000001016); size = 3 }) ∷ free ∷ arriving (arrival 8 3 (record { size = 3; subtype = 1; name = one_letter 0x43; version = 0; expire = None; trigger = None; category = None })) ∷ replicate 9 free
  pub history : (ledger blank all_sent (replies changed_opening all_sent)).history ≡ record { number = 1; moment = 5184000000000; body = 0x61 ∷ 0x62 ∷ 0x63 ∷ [] } ∷ []
