-- A shelf: a list of entries ascending by key, equal keys in order of arrival, for any comparison of the keys.
use Rattle.std.specs.Prelude.{◌≡◌, ℕ, Bool, false, cond, List, [], ◌∷◌, Option, ◌==◌}
use Rattle.std.specs.declared.cmp.Ordering.{Ordering}
use Rattle.std.specs.Ordering.{is_gt}
use Rattle.std.specs.List.{find, position_or_len, AllByRecursion}
use Rattle.shelf.specs.declared.entries.Entry.{Entry}
use Rattle.shelf.specs.Searches.{without_that}

module _ {K : Type 0} where
  -- the entry carries the load
  abbrev pub carries : ℕ → Entry K → Bool
  carries load x = x.load == load

  -- the first entry that carries the load, or none
  abbrev pub found : ℕ → List (Entry K) → Option (Entry K)
  found load xs = find (carries load) xs

  -- the list without the first entry that carries the load
  abbrev pub without : ℕ → List (Entry K) → List (Entry K)
  without load xs = without_that (carries load) xs

module _ {K : Type 0} (cmp : K → K → Ordering) where
  -- the entry is strictly above the key
  abbrev pub above : K → Entry K → Bool
  above k x = is_gt (cmp x.key k)

  -- how many entries, from the front, are not above the key: the place of the first that is above it
  abbrev pub place_of : K → List (Entry K) → ℕ
  place_of k xs = position_or_len (above k) xs

  -- the first entry above the key, or none
  abbrev pub first_above : K → List (Entry K) → Option (Entry K)
  first_above k xs = find (above k) xs

  -- the entry put in behind every entry, from the front, that is not above it
  abbrev pub shelved : Entry K → List (Entry K) → List (Entry K)
  shelved e [] = e ∷ []
  shelved e (x ∷ xs) = cond (above e.key x) (e ∷ x ∷ xs) (x ∷ shelved e xs)

  -- no entry is above one that stands behind it
  abbrev pub Ascending : List (Entry K) → Type 0
  Ascending [] = Unit {0}
  Ascending (x ∷ xs) = AllByRecursion (λ y. above y.key x ≡ false) xs × Ascending xs
