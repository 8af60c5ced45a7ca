-- Searches among the slots.
use Rattle.std.specs.Prelude.{ℕ, zero, suc, ◌+◌, Bool, cond, List, [], ◌∷◌, map, Some, None, Option, ◌==◌, slice_index_or}
use Rattle.slots.specs.Slides.{Slot, free, is_free}

-- the index of the first slot that passes the test, counted from k
abbrev pub first_from : (Slot → Bool) → ℕ → List Slot → Option ℕ
first_from test k [] = None
first_from test k (x ∷ xs) = cond (test x) (Some k) (first_from test (suc k) xs)

abbrev pub first_slot : (Slot → Bool) → List Slot → Option ℕ
first_slot test xs = first_from test 0 xs

-- the slot behind slot k, going round
abbrev pub next : ℕ → ℕ
next k = cond (k == 11) 0 (k + 1)

-- the first free slot among n of them, from slot k on, going round
abbrev pub free_from : List Slot → ℕ → ℕ → Option ℕ
free_from xs zero k = None
free_from xs (suc n) k = cond (is_free (slice_index_or xs k free)) (Some k) (free_from xs n (next k))

-- the first free slot behind the one given last, which comes last itself
abbrev pub first_free : List Slot → ℕ → Option ℕ
first_free xs recent = free_from xs 12 (next recent)

-- the slots that pass the test are freed
abbrev pub vacated : (Slot → Bool) → List Slot → List Slot
vacated test xs = map (λ x. cond (test x) free x) xs
