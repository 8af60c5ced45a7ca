-- Going through what waits: what is still to come gives the rest of the shows and of their count.
use Rattle.std.proofs.Common.{◌≡◌, ℕ, ◌+◌, Bool, List, map, length, filter}
use Rattle.display.specs.Meaning.{Meaning}
use Rattle.rules.specs.Reached.{Reached}
use Rattle.rules.specs.Triggers.{Effect}
use Rattle.rules.specs.Worlds.{show_all}
use Rattle.shelf.specs.declared.entries.Entry.{Entry}

module _ (p : Entry ℕ → Bool) (f : Entry ℕ → Effect) (total : ℕ) (end : Meaning) where
  -- n shows came to m, and those of the entries ws are still to come
  abbrev pub Coming : ℕ → Meaning → List (Entry ℕ) → Type 0
  Coming n m ws = (n + length (filter p ws) ≡ total) × (show_all m (map f (filter p ws)) ≡ end)

module _ {D : Type 0} (told : D → ℕ → ℕ → List ℕ → D → Type 0) (p : Entry ℕ → Bool) (f : Entry ℕ → Effect) (all : List Effect) (first : D) where
  -- whatever is reached by the shows of the entries ws from here on is reached by all of them from the first display on
  abbrev pub Leads : D → List (Entry ℕ) → Type 0
  Leads d ws = (e : D) → Reached told d (map f (filter p ws)) e → Reached told first all e
