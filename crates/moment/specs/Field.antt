-- The time field, bit by bit.
use Rattle.std.specs.Prelude.{ℕ, ◌+◌, ◌*◌, cond, ◌&&◌, List, length, Ok, Err, Result, ◌==◌, nat_le, nat_lt}
use Rattle.packed.specs.Bits.{field, whole}
use Rattle.moment.specs.Days.{join_of}
use Rattle.moment.specs.declared.times.Time.{Time}
use Rattle.moment.specs.declared.times.Time.TheVariants.{Now, At}
use Rattle.refusal.specs.declared.Fault.{Fault}
use Rattle.refusal.specs.declared.causes.Cause.TheVariants.{ParameterMalformed}
use Rattle.refusal.specs.declared.causes.Layer.TheVariants.{TimeField}

-- the refusal of a time field; where a header holds it, the header puts the parameter's place in
abbrev pub time_fault : Fault
time_fault = record { cause = ParameterMalformed; layer = TimeField; place = 0 }

-- the milliseconds of the day at a time of day
abbrev pub of_day : ℕ → ℕ → ℕ → ℕ → ℕ
of_day h m s ms = ((h * 60 + m) * 60 + s) * 1000 + ms

-- the moment of a day and a time of day, refused out of range and at moment 0
abbrev pub moment_at : ℕ → ℕ → ℕ → ℕ → ℕ → Result Time Fault
moment_at d h m s ms =
    cond (nat_le h 23 && (nat_le m 59 && (nat_le s 59 && (nat_le ms 999 && nat_lt 0 (join_of d (of_day h m s ms)))))) (Ok (At (join_of d (of_day h m s ms)))) (Err time_fault)

-- the parts of a field of `total` bits, given as one number
module _ (total word : ℕ) where
  -- 0 means Now, and then nothing else is read
  abbrev pub validity : ℕ
  validity = field total 0 1 word

  abbrev pub day : ℕ
  day = field total 1 17 word

  -- two unused bits, then the form: 0 is short, 1 is long
  abbrev pub form : ℕ
  form = field total 20 1 word

  abbrev pub hours : ℕ
  hours = field total 21 5 word

  abbrev pub minutes : ℕ
  minutes = field total 26 6 word

  -- the two parts that only the long form has
  abbrev pub seconds : ℕ
  seconds = field total 32 6 word

  abbrev pub milliseconds : ℕ
  milliseconds = field total 38 10 word

-- a field by its first 32 bits, with the form that it must have and the seconds and milliseconds behind those bits
abbrev pub time_with : ℕ → ℕ → ℕ → ℕ → Result Time Fault
time_with w f s ms =
    cond (validity 32 w == 0) (Ok Now) (cond (form 32 w == f) (moment_at (day 32 w) (hours 32 w) (minutes 32 w) s ms) (Err time_fault))

-- a field of 32 bits: Now, or the short form with its missing parts 0
abbrev pub short_time : ℕ → Result Time Fault
short_time w =
    cond (validity 32 w == 0) (Ok Now) (cond (form 32 w == 0) (moment_at (day 32 w) (hours 32 w) (minutes 32 w) 0 0) (Err time_fault))

-- a field of 48 bits: Now, or the long form
abbrev pub long_time : ℕ → Result Time Fault
long_time w =
    cond (validity 48 w == 0) (Ok Now) (cond (form 48 w == 1) (moment_at (day 48 w) (hours 48 w) (minutes 48 w) (seconds 48 w) (milliseconds 48 w)) (Err time_fault))

-- what a time field says, for any bytes
abbrev pub time_of : List ℕ → Result Time Fault
time_of xs =
    cond (length xs == 4) (short_time (whole xs)) (cond (length xs == 6) (long_time (whole xs)) (Err time_fault))
