-- What the bytes of a trace say, record by record.
use Rattle.std.specs.Prelude.{ℕ, zero, suc, cond, List, [], ◌∷◌, length, take, drop, Ok, Err, Result, ◌==◌, nat_le}
use Rattle.calls.specs.Plain.{call_of}
use Rattle.calls.specs.declared.Call as plain
use Rattle.packed.specs.Bits.{field, whole}
use Rattle.refusal.specs.declared.Fault.{Fault}
use Rattle.refusal.specs.declared.causes.Cause.TheVariants.{RecordMalformed}
use Rattle.refusal.specs.declared.causes.Layer.TheVariants.{Trace}
use Rattle.rules.specs.Calls.{Call, header, segment, time}
use Rattle.std.specs.Result.{result_map_both}

abbrev pub malformed : Fault
malformed = record { cause = RecordMalformed; layer = Trace; place = 0 }

-- a TransportId, and a header behind it
abbrev pub header_in : List ℕ → Result Call Fault
header_in [] = Err malformed
header_in (a ∷ []) = Err malformed
header_in (a ∷ b ∷ xs) = Ok (header (whole (a ∷ b ∷ [])) xs)

-- a TransportId, a last flag of one bit, a number of 15, and the segment's bytes behind them
abbrev pub segment_in : List ℕ → Result Call Fault
segment_in [] = Err malformed
segment_in (a ∷ []) = Err malformed
segment_in (a ∷ b ∷ []) = Err malformed
segment_in (a ∷ b ∷ c ∷ []) = Err malformed
segment_in (a ∷ b ∷ c ∷ d ∷ xs) =
    Ok (segment (whole (a ∷ b ∷ [])) (field 16 1 15 (whole (c ∷ d ∷ []))) (field 16 0 1 (whole (c ∷ d ∷ [])) == 1) xs)

-- what a payload of that kind says
abbrev pub said_by : ℕ → List ℕ → Result Call Fault
said_by kind xs =
    cond (kind == 1) (Ok (time xs)) (cond (kind == 2) (header_in xs) (cond (kind == 3) (segment_in xs) (Err malformed)))

-- a payload of that kind and size, and what stands behind it
abbrev pub record_with : ℕ → ℕ → List ℕ → Result Call Fault × List ℕ
record_with kind size xs = cond (nat_le size (length xs)) (said_by kind (take size xs), drop size xs) (Err malformed, [])

-- the first record: a kind of 3 bits, a size of 13, a payload of that size; and the bytes behind it
abbrev pub first_record : List ℕ → Result Call Fault × List ℕ
first_record [] = (Err malformed, [])
first_record (a ∷ []) = (Err malformed, [])
first_record (a ∷ b ∷ xs) =
    record_with (field 16 0 3 (whole (a ∷ b ∷ []))) (field 16 3 13 (whole (a ∷ b ∷ []))) xs

-- the records of xs, of which n is at least the length
abbrev pub records_from : ℕ → List ℕ → List (Result Call Fault)
records_from zero xs = []
records_from (suc n) [] = []
records_from (suc n) (x ∷ xs) = (first_record (x ∷ xs)).0 ∷ records_from n (first_record (x ∷ xs)).1

-- all records of an input, of which no more than 32,768 bytes count
abbrev pub records_of : List ℕ → List (Result Call Fault)
records_of xs = records_from (length (take 32768 xs)) (take 32768 xs)

-- a record of the code by the bytes that it points to
abbrev pub seen : Result plain.Call Fault → Result Call Fault
seen r = result_map_both call_of (λ e. e) r
