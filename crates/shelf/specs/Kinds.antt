-- The orders of the two kinds of shelf: waiting moments, and category places.
use Rattle.std.specs.Prelude.{◌≡◌, ℕ, ◌&&◌, ◌||◌, ◌==◌, nat_lt}
use Rattle.std.specs.declared.cmp.Ordering.{Ordering}
use Rattle.shelf.specs.declared.entries.Entry.{Entry}
use Rattle.shelf.specs.Places.{above}
use Rattle.std.specs.Ordering.{nat_cmp, ordering_then}

-- moments are ordered as numbers
abbrev pub by_moment : ℕ → ℕ → Ordering
by_moment = nat_cmp

-- category places are ordered by category, and within a category by slide
abbrev pub by_place : ℕ × ℕ → ℕ × ℕ → Ordering
by_place = (λ x y. ordering_then (nat_cmp x.0 y.0) (nat_cmp x.1 y.1))

-- an entry is above a moment where its own is later
abbrev pub Later : Type 0
Later = (k : ℕ) (x : Entry ℕ) → above by_moment k x ≡ nat_lt k x.key

-- an entry is above a place where its category is higher, or is the same and its slide is higher
abbrev pub Further : Type 0
Further =
    (k : ℕ × ℕ) (x : Entry (ℕ × ℕ)) → above by_place k x ≡ (nat_lt k.0 x.key.0 || (k.0 == x.key.0 && nat_lt k.1 x.key.1))
