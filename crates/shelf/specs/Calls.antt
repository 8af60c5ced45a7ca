-- What the calls that change a shelf answer, and what they leave of the entries lent.
use Rattle.std.specs.Prelude.{◌≡◌, ℕ, ◌+◌, ◌-◌, ◌<◌, ◌≤◌, true, List, [], ◌∷◌, length, take, is_some, Some, None, Ok, Err, Option, Result}
use Rattle.shelf.specs.declared.entries.Entry.{Entry}
use Rattle.shelf.specs.Places.{found}

module _ {K : Type 0} (used : ℕ) where
  -- an entry that comes: one more is used, or all were, and then it is handed back and nothing has changed
  abbrev pub Received : Entry K → List (Entry K) → Result ℕ (Entry K) → List (Entry K) → Type 0
  Received e old (Ok n) new = (used < length old) × (n ≡ used + 1)
  Received e old (Err back) new = (length old ≤ used) × (back ≡ e) × (new ≡ old)

  -- a load that goes: one less is used, or none carried it, and then nothing has changed
  abbrev pub Released : ℕ → List (Entry K) → Option ℕ → List (Entry K) → Type 0
  Released load old (Some n) new = (is_some (found load (take used old)) ≡ true) × (n + 1 ≡ length (take used old))
  Released load old None new = (found load (take used old) ≡ None) × (new ≡ old)

  -- the first entry that goes: the list was that entry and what is left, or it was empty, and then nothing has changed
  abbrev pub Headed : List (Entry K) → Option (Entry K) → List (Entry K) → Type 0
  Headed old (Some first) new =
      (0 < used) × (take used old ≡ first ∷ take (length (take used old) - 1) new)
  Headed old None new = (take used old ≡ []) × (new ≡ old)
