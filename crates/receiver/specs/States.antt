-- The state of the rules from the receiver's plain data. What lies behind a rack's count, or beside a free slot, is not seen.
use Rattle.std.specs.Prelude.{ℕ}
use Rattle.rack.specs.Listed.{triggers, filed}
use Rattle.rack.specs.declared.racks.Rack.{Rack}
use Rattle.rules.specs.Worlds.{State}
use Rattle.slots.specs.Seen.{all_seen}
use Rattle.slots.specs.declared.indices.SlotIndex.{SlotIndex}
use Rattle.slots.specs.declared.records.Slots.{Slots}

abbrev pub state_from : ℕ → ℕ → SlotIndex → ℕ → Slots → Rack ℕ → Rack (ℕ × ℕ) → State
state_from clock given recent room slots waiting places =
    record { clock = clock; given = given; recent = recent.index; room = room; slots = all_seen slots; waiting = triggers waiting; places = filed places }
