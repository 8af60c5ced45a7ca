-- A data group as it is written, field by field. This is the law above the reader.
use Rattle.std.specs.Prelude.{◌≡◌, ℕ, ◌+◌, ◌*◌, ◌^◌, ◌<◌, ◌≤◌, Bool, true, false, cond, List, [], ◌∷◌, ◌++◌, length, is_some, None, Some, Ok, Err, Option, Result, slice_index, IsTrue, IsFalse, ◌≢◌, ◌↔◌}
use Rattle.packed.specs.Bits.{bytes_of}
use Rattle.checksum.specs.Registers.{checksum_of}
use Rattle.refusal.specs.declared.Fault.{Fault}
use Rattle.refusal.specs.declared.causes.Cause.TheVariants.{GroupMalformed, ChecksumDiffers, HeaderInParts}
use Rattle.datagroup.specs.Fields.{checksum_flag, type_in}
use Rattle.datagroup.specs.Groups.{Group, header, segment, other, group_fault, sum_fits}

-- what is written in a group of type 3 or 4, from its first byte to the segment; `unused`, `indices`, `repetition`, the
-- extension and what stands in the address behind the TransportId say nothing to a reader
pub record Parts : Type 0 where
  pub type : ℕ
  pub indices : ℕ
  pub extension : Option (ℕ × ℕ)
  pub last : Bool
  pub number : ℕ
  pub unused : ℕ
  pub transport : ℕ
  pub address : List ℕ
  pub repetition : ℕ
  pub payload : List ℕ

-- each in the width of its field
pub record Fits (p : Parts) : Type 0 where
  pub type : p.type < 2 ^ 4
  pub number : p.number < 2 ^ 15
  pub unused : p.unused < 2 ^ 3
  pub transport : p.transport < 2 ^ 16
  pub address : 2 + length p.address < 2 ^ 4
  pub repetition : p.repetition < 2 ^ 3
  pub payload : length p.payload < 2 ^ 13

-- a flag in one bit
abbrev pub bit : Bool → ℕ
bit b = cond b 1 0

-- the flags of extension, checksum, segment and user access field, and the type
abbrev pub first_byte : Bool → Parts → ℕ
first_byte summed p = bit (is_some p.extension) * 2 ^ 7 + bit summed * 2 ^ 6 + 2 ^ 5 + 2 ^ 4 + p.type

abbrev pub extension_bytes : Option (ℕ × ℕ) → List ℕ
extension_bytes None = []
extension_bytes (Some e) = e.0 ∷ e.1 ∷ []

-- the last flag, and the number
abbrev pub segment_bytes : Parts → List ℕ
segment_bytes p = bytes_of 2 (bit p.last * 2 ^ 15 + p.number)

-- the unused bits, the TransportId flag, and the length of the address; then the address, the TransportId first
abbrev pub access_bytes : Parts → List ℕ
access_bytes p = (p.unused * 2 ^ 5 + 2 ^ 4 + (2 + length p.address)) ∷ (bytes_of 2 p.transport ++ p.address)

-- the repetition count, the segment size, and the segment
abbrev pub payload_bytes : Parts → List ℕ
payload_bytes p = bytes_of 2 (p.repetition * 2 ^ 13 + length p.payload) ++ p.payload

-- what stands behind the two head bytes
abbrev pub field_bytes : Parts → List ℕ
field_bytes p = extension_bytes p.extension ++ (segment_bytes p ++ (access_bytes p ++ payload_bytes p))

-- bytes with their checksum behind them, or without
abbrev pub with_sum : Bool → List ℕ → List ℕ
with_sum false xs = xs
with_sum true xs = xs ++ bytes_of 2 (checksum_of xs)

-- the bytes of a group, with a checksum or without
abbrev pub spelled : Bool → Parts → List ℕ
spelled summed p = with_sum summed (first_byte summed p ∷ p.indices ∷ field_bytes p)

-- the bytes xs are a group with these parts
pub record Spells (p : Parts) (xs : List ℕ) : Type 0 where
  pub fits : Fits p
  pub summed : Bool
  pub bytes : xs ≡ spelled summed p

-- the first byte flags a checksum
abbrev pub Flagged : List ℕ → Type 0
Flagged xs = IsTrue (checksum_flag (slice_index xs 0))

-- a checksum that is flagged is there, behind two head bytes, and is right
abbrev pub SumStands : List ℕ → Type 0
SumStands xs = Flagged xs → (4 ≤ length xs) × IsTrue (sum_fits xs)

-- a checksum that is flagged is there and is wrong
abbrev pub SumDiffers : List ℕ → Type 0
SumDiffers xs = Flagged xs × (4 ≤ length xs) × IsFalse (sum_fits xs)

-- a header comes whole in segment 0, which is the last
abbrev pub Whole : Parts → Type 0
Whole p = (p.last ≡ true) × (p.number ≡ 0)

-- two head bytes with a type that is neither 3 nor 4
abbrev pub OtherType : List ℕ → Type 0
OtherType xs = (2 ≤ length xs) × (type_in (slice_index xs 0) ≢ 3) × (type_in (slice_index xs 0) ≢ 4)

-- what the bytes xs of a data group mean to a receiver: a call, nothing, or why they are refused
pub data Means (xs : List ℕ) : Result Group Fault → Type 0 where
  differs : SumDiffers xs → Means xs (Err (group_fault ChecksumDiffers))
  passed_over : SumStands xs → OtherType xs → Means xs (Ok other)
  whole_header : (p : Parts) → Spells p xs → p.type ≡ 3 → Whole p → Means xs (Ok (header p.transport p.payload))
  in_parts : SumStands xs → (p : Parts) → Spells p xs → p.type ≡ 3 → (Whole p → ⊥) → Means xs (Err (group_fault HeaderInParts))
  one_segment : (p : Parts) → Spells p xs → p.type ≡ 4 → Means xs (Ok (segment p.transport p.number p.last p.payload))
  -- in all other cases
  malformed : (SumDiffers xs → ⊥) → (SumStands xs → OtherType xs → ⊥) → ((p : Parts) → Spells p xs → (p.type ≢ 3) × (p.type ≢ 4)) → Means xs (Err (group_fault GroupMalformed))

-- r is read of the bytes xs exactly if they mean that
unfoldable pub GroupLaw : List ℕ → Result Group Fault → Type 0
GroupLaw xs r = (s : Result Group Fault) → (r ≡ s) ↔ Means xs s
