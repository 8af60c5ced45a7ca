-- The fields of a data group, each behind the one before, and what stands behind each.
use Rattle.std.specs.Prelude.{ℕ, Bool, true, false, cond, ◌&&◌, List, [], ◌∷◌, length, take, drop, Some, None, Option, ◌==◌, nat_le}
use Rattle.packed.specs.Bits.{field, whole}
use Rattle.datagroup.specs.declared.fields.Fields as code

-- the first byte: a flag for each of extension, checksum, segment and user access field, and the type
abbrev pub extension_flag : ℕ → Bool
extension_flag a = field 8 0 1 a == 1

abbrev pub checksum_flag : ℕ → Bool
checksum_flag a = field 8 1 1 a == 1

abbrev pub segment_flag : ℕ → Bool
segment_flag a = field 8 2 1 a == 1

abbrev pub access_flag : ℕ → Bool
access_flag a = field 8 3 1 a == 1

abbrev pub type_in : ℕ → ℕ
type_in a = field 8 4 4 a

-- what the fields of a group of type 3 or 4 say
pub record FieldsRecord : Type 0 where
  pub last : Bool
  pub number : ℕ
  pub transport : ℕ
  pub segment : List ℕ

-- what stands behind a flagged extension field, which has two bytes that are not read
abbrev pub behind_extension : Bool → List ℕ → Option (List ℕ)
behind_extension false xs = Some xs
behind_extension true [] = None
behind_extension true (e ∷ []) = None
behind_extension true (e ∷ f ∷ xs) = Some xs

-- a flagged segment field: the last flag, the segment's number; and what stands behind them
abbrev pub segment_field : Bool → List ℕ → Option (Bool × ℕ × List ℕ)
segment_field false xs = None
segment_field true [] = None
segment_field true (c ∷ []) = None
segment_field true (c ∷ d ∷ xs) = Some (field 16 0 1 (whole (c ∷ d ∷ [])) == 1, field 16 1 15 (whole (c ∷ d ∷ [])), xs)

-- the TransportId in front of an address, and what stands behind that
abbrev pub transport_in : List ℕ → List ℕ → Option (ℕ × List ℕ)
transport_in [] ys = None
transport_in (s ∷ []) ys = None
transport_in (s ∷ t ∷ xs) ys = Some (whole (s ∷ t ∷ []), ys)

-- a flagged user access field: three bits that are not read, the TransportId flag, a length, and an address of that many
-- bytes, the TransportId first
abbrev pub access_field : Bool → List ℕ → Option (ℕ × List ℕ)
access_field flag [] = None
access_field flag (u ∷ xs) =
    cond (flag && field 8 3 1 u == 1 && nat_le (field 8 4 4 u) (length xs)) (transport_in (take (field 8 4 4 u) xs) (drop (field 8 4 4 u) xs)) None

-- a repetition count, which is not read, a segment size, and a segment of that size
abbrev pub sized : List ℕ → Option (List ℕ)
sized [] = None
sized (r ∷ []) = None
sized (r ∷ s ∷ xs) = cond (field 16 3 13 (whole (r ∷ s ∷ [])) == length xs) (Some xs) None

abbrev pub and_then : {T U : Type 0} → Option T → (T → Option U) → Option U
and_then None f = None
and_then (Some x) f = f x

-- the fields behind the two head bytes, the first of which is a
abbrev pub fields_of : ℕ → List ℕ → Option FieldsRecord
fields_of a xs =
    and_then (behind_extension (extension_flag a) xs) (λ ys. and_then (segment_field (segment_flag a) ys) (λ s. and_then (access_field (access_flag a) s.2) (λ t. and_then (sized t.1) (λ zs. Some (record { last = s.0; number = s.1; transport = t.0; segment = zs })))))

-- fields of the code by the bytes that they point to
abbrev pub seen_fields : code.Fields → FieldsRecord
seen_fields f = record { last = f.last; number = f.number; transport = f.transport; segment = f.segment.now }
