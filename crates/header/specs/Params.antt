-- Parameters: a length mark of 2 bits and an id of 6, then the length where the mark does not say it, then the data.
use Rattle.std.specs.Prelude.{ℕ, zero, suc, ◌+◌, ◌*◌, cond, List, [], ◌∷◌, length, take, drop, Some, None, Option, ◌==◌, nat_le, nat_lt, slice_index}
use Rattle.packed.specs.Bits.{field, whole}
use Rattle.std.specs.Option.{option_map}
use Rattle.header.specs.declared.parts.Parameter.{Parameter}

-- the two parts of a parameter's first byte
abbrev pub mark_in : ℕ → ℕ
mark_in head = field 8 0 2 head

abbrev pub id_in : ℕ → ℕ
id_in head = field 8 2 6 head

-- behind mark 3: a flag, then the length in 7 bits (flag 0) or 15 bits (flag 1); where the data begins, and its length
abbrev pub long_extent : List ℕ → Option (ℕ × ℕ)
long_extent [] = None
long_extent (a ∷ []) = cond (field 8 0 1 a == 0) (Some (2, field 8 1 7 a)) None
long_extent (a ∷ b ∷ xs) =
    cond (field 8 0 1 a == 0) (Some (2, field 8 1 7 a)) (Some (3, field 16 1 15 (whole (a ∷ b ∷ []))))

-- the data lengths that marks stand for, mark by mark; behind mark 3 the length has its own bytes
abbrev pub marked_length : ℕ → Option ℕ
marked_length zero = Some 0
marked_length (suc zero) = Some 1
marked_length (suc (suc zero)) = Some 4
marked_length (suc (suc (suc n))) = None

-- data of a length that the mark gives begin right behind the head
abbrev pub extent_with : Option ℕ → List ℕ → Option (ℕ × ℕ)
extent_with (Some n) xs = Some (1, n)
extent_with None xs = long_extent xs

-- where the data of the first parameter begins, and its length
abbrev pub extent_of : List ℕ → Option (ℕ × ℕ)
extent_of [] = None
extent_of (head ∷ xs) = extent_with (marked_length (mark_in head)) xs

-- the same by one rule: for marks 0, 1 and 2 the length is the mark times itself
abbrev pub extent_by_rule : List ℕ → Option (ℕ × ℕ)
extent_by_rule [] = None
extent_by_rule (head ∷ xs) =
    cond (nat_lt (mark_in head) 3) (Some (1, mark_in head * mark_in head)) (long_extent xs)

-- a parameter read: its id, its data, and the bytes behind it
pub record Part : Type 0 where
  pub id : ℕ
  pub holds : List ℕ
  pub rest : List ℕ

-- the first parameter, or none where it runs past the end
abbrev pub first_within : List ℕ → Option (ℕ × ℕ) → Option Part
first_within xs None = None
first_within xs (Some e) = cond (nat_le (e.0 + e.1) (length xs)) (Some (record { id = id_in (slice_index xs 0); holds = take e.1 (drop e.0 xs); rest = drop (e.0 + e.1) xs })) None

abbrev pub first_of : List ℕ → Option Part
first_of xs = first_within xs (extent_of xs)

-- a parameter of the code by the bytes that it points to
abbrev pub part_of : Parameter → Part
part_of p = record { id = p.id; holds = p.bytes.now; rest = p.rest.now }

abbrev pub seen_first : Option Parameter → Option Part
seen_first o = option_map part_of o
