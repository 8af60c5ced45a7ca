-- What holds of a shelf's list, in the words of its order.
use Rattle.std.specs.Prelude.{◌≡◌, ℕ, ◌≤◌, true, false, List, [], ◌∷◌, ◌++◌, length, take, drop, Some, None, filter, Option}
use Rattle.std.specs.declared.cmp.Ordering.{Ordering}
use Rattle.std.specs.Ordering.{is_eq}
use Rattle.std.specs.List.{AllByRecursion}
use Rattle.shelf.specs.declared.entries.Entry.{Entry}
use Rattle.shelf.specs.Places.{above, found}
use Rattle.shelf.specs.Searches.{FirstAt}

module _ {K : Type 0} where
  -- no two entries carry one load
  abbrev pub Apart : List (Entry K) → Type 0
  Apart [] = Unit {0}
  Apart (x ∷ xs) = (found x.load xs ≡ None) × Apart xs

module _ {K : Type 0} (cmp : K → K → Ordering) where
  -- all entries are above the key, or none is
  abbrev pub AllAbove : K → List (Entry K) → Type 0
  AllAbove k xs = AllByRecursion (λ x. above cmp k x ≡ true) xs

  abbrev pub NoneAbove : K → List (Entry K) → Type 0
  NoneAbove k xs = AllByRecursion (λ x. above cmp k x ≡ false) xs

  -- e came onto the shelf: in front of it stands what is not above it, behind it what is, and without it new is old
  pub record Arrived (e : Entry K) (old new : List (Entry K)) : Type 0 where
    pub front : List (Entry K)
    pub back : List (Entry K)
    pub before : old ≡ front ++ back
    pub after : new ≡ front ++ e ∷ back
    pub not_above : NoneAbove e.key front
    pub all_above : AllAbove e.key back

  -- the entries of one key, in the order in which they stand
  abbrev pub of_key : K → List (Entry K) → List (Entry K)
  of_key k xs = filter (λ x. is_eq (cmp x.key k)) xs

  -- e came behind its equals: of each key there stands what stood before, then e if the key is its own
  abbrev pub InTurn : Entry K → List (Entry K) → List (Entry K) → Type 0
  InTurn e old new = (k : K) → of_key k new ≡ of_key k old ++ of_key k (e ∷ [])

  -- of the list, just the first n entries are not above the key
  pub record Reach (k : K) (xs : List (Entry K)) (n : ℕ) : Type 0 where
    pub within : n ≤ length xs
    pub reached : NoneAbove k (take n xs)
    pub beyond : AllAbove k (drop n xs)

  -- the answer is the lowest entry above the key, the first of those that are equally low; or none is above it
  abbrev pub Next : K → List (Entry K) → Option (Entry K) → Type 0
  Next k xs None = NoneAbove k xs
  Next k xs (Some x) = FirstAt (above cmp k) xs x × AllByRecursion (λ y. above cmp k y ≡ true → above cmp y.key x ≡ false) xs
