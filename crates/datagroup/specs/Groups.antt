-- Data groups: a checksum where one is flagged, two head bytes, and by the type what the fields ask.
use Rattle.std.specs.Prelude.{ℕ, ◌-◌, Bool, cond, ◌&&◌, List, [], ◌∷◌, length, take, drop, Ok, Err, Result, ◌==◌, nat_le}
use Rattle.packed.specs.Bits.{whole}
use Rattle.std.specs.Option.{ok_or}
use Rattle.std.specs.Result.{result_map_both}
use Rattle.checksum.specs.Registers.{checksum_of}
use Rattle.refusal.specs.declared.Fault.{Fault}
use Rattle.refusal.specs.declared.causes.Cause.{Cause}
use Rattle.refusal.specs.declared.causes.Cause.TheVariants.{GroupMalformed, ChecksumDiffers, HeaderInParts}
use Rattle.refusal.specs.declared.causes.Layer.TheVariants.{DataGroup}
use Rattle.datagroup.specs.Fields.{checksum_flag, type_in, FieldsRecord, fields_of}
use Rattle.datagroup.specs.declared.groups.Group as code

-- a refusal of a data group
abbrev pub group_fault : Cause → Fault
group_fault c = record { cause = c; layer = DataGroup; place = 0 }

-- what a group asks: a header call, a segment call, or nothing
pub data Group : Type 0 where
  header : (transport : ℕ) (bytes : List ℕ) → Group
  segment : (transport number : ℕ) (last : Bool) (bytes : List ℕ) → Group
  other : Group

-- the last two bytes are the checksum of those before them
abbrev pub sum_fits : List ℕ → Bool
sum_fits xs = whole (drop (length xs - 2) xs) == checksum_of (take (length xs - 2) xs)

-- the bytes before a checksum, where it is right; two head bytes stand before it
abbrev pub unsummed : List ℕ → Result (List ℕ) Fault
unsummed xs =
    cond (nat_le 4 (length xs)) (cond (sum_fits xs) (Ok (take (length xs - 2) xs)) (Err (group_fault ChecksumDiffers))) (Err (group_fault GroupMalformed))

-- the bytes before a flagged checksum
abbrev pub checked : List ℕ → Result (List ℕ) Fault
checked [] = Ok []
checked (a ∷ xs) = cond (checksum_flag a) (unsummed (a ∷ xs)) (Ok (a ∷ xs))

-- a header comes whole: in segment 0, which is the last
abbrev pub as_header : FieldsRecord → Result Group Fault
as_header f = cond (f.last && f.number == 0) (Ok (header f.transport f.segment)) (Err (group_fault HeaderInParts))

abbrev pub as_segment : FieldsRecord → Group
as_segment f = segment f.transport f.number f.last f.segment

abbrev pub and_then : {T U : Type 0} → Result T Fault → (T → Result U Fault) → Result U Fault
and_then (Ok x) f = f x
and_then (Err e) f = Err e

-- the fields, or the refusal of a group that has not all of them
abbrev pub demanded : ℕ → List ℕ → Result FieldsRecord Fault
demanded a xs = ok_or (fields_of a xs) (group_fault GroupMalformed)

-- what the bytes before the checksum ask: a header call with type 3, a segment call with type 4
abbrev pub content : List ℕ → Result Group Fault
content [] = Err (group_fault GroupMalformed)
content (a ∷ []) = Err (group_fault GroupMalformed)
content (a ∷ b ∷ xs) =
    cond (type_in a == 3) (and_then (demanded a xs) as_header) (cond (type_in a == 4) (and_then (demanded a xs) (λ f. Ok (as_segment f))) (Ok other))

-- what a data group asks
unfoldable pub group_of : List ℕ → Result Group Fault
group_of xs = and_then (checked xs) content

-- a group of the code by the bytes that it points to
abbrev pub seen_group : code.Group → Group
seen_group (code.TheVariants.Header t xs) = header t xs.now
seen_group (code.TheVariants.Segment t n l xs) = segment t n l xs.now
seen_group code.TheVariants.Other = other

abbrev pub seen : Result code.Group Fault → Result Group Fault
seen r = result_map_both seen_group (λ e. e) r
