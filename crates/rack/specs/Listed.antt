-- The entries that stand on a rack.
use Rattle.std.specs.Prelude.{ℕ, List, take}
use Rattle.rack.specs.declared.racks.Rack.{Rack}
use Rattle.shelf.specs.declared.entries.Entry.{Entry}

abbrev pub listed : {K : Type 0} → Rack K → List (Entry K)
listed r = take r.used r.entries

-- at the two kinds of key
abbrev pub triggers : Rack ℕ → List (Entry ℕ)
triggers r = listed r

abbrev pub filed : Rack (ℕ × ℕ) → List (Entry (ℕ × ℕ))
filed r = listed r
