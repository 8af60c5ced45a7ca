-- What a time field does: it sets the clock once, and is a reading after that.
use Rattle.std.specs.Prelude.{ℕ, zero, suc, ◌+◌, ◌-◌, cond, leb, List, length, Ok, Err, filter, Result, ◌==◌, nat_le}
use Rattle.moment.specs.Field.{time_of, time_fault}
use Rattle.moment.specs.declared.times.Time.{Time}
use Rattle.moment.specs.declared.times.Time.TheVariants.{Now, At}
use Rattle.refusal.specs.declared.Fault.{Fault}
use Rattle.refusal.specs.declared.causes.Cause.TheVariants.{BodyMemoryMisfit, ReadingBelowClock}
use Rattle.rules.specs.Calls.{Reply, counted, refused}
use Rattle.rules.specs.Headers.{receiver_fault}
use Rattle.rules.specs.Worlds.{State, World, fits_memory, holding, with_state, vacate, fire, due}
use Rattle.slots.specs.Slides.{ends}

-- what has expired by t is gone
abbrev pub expired : ℕ → World → World
expired t w = with_state (vacate (ends t) w.state) w

-- one moment: expiries first, then triggers
unfoldable pub tick : World → World
tick w = fire (suc w.state.clock) (expired (suc w.state.clock) w)

-- how many triggers take effect in it
unfoldable pub ticked : World → ℕ
ticked w = length (due (suc w.state.clock) (expired (suc w.state.clock) w).state.waiting)

-- n moments, one after the other, and the triggers that take effect in them
abbrev pub walk : ℕ → World → World
walk zero w = w
walk (suc n) w = tick (walk n w)

abbrev pub walked : ℕ → World → ℕ
walked zero w = 0
walked (suc n) w = walked n w + ticked (walk n w)

-- a setting to t first expires all up to t and drops the triggers below t
abbrev pub prepared : ℕ → World → World
prepared t w =
    let u : State = (expired t w).state in
    with_state (holding u.slots (filter (λ e. leb t e.key) u.waiting) u.places u) w

-- a setting to t, and a reading of t
abbrev pub set_to : ℕ → World → Reply × World
set_to t w = (counted (length (due t (prepared t w).state.waiting)), fire t (prepared t w))

abbrev pub read_to : ℕ → World → Reply × World
read_to t w =
    cond (nat_le w.state.clock t) (counted (walked (t - w.state.clock) w), walk (t - w.state.clock) w) (refused (receiver_fault ReadingBelowClock), w)

abbrev pub on_setting : Result Time Fault → World → Reply × World
on_setting (Err e) w = (refused e, w)
on_setting (Ok Now) w = (refused time_fault, w)
on_setting (Ok (At t)) w = set_to t w

abbrev pub on_reading : Result Time Fault → World → Reply × World
on_reading (Err e) w = (refused e, w)
on_reading (Ok Now) w = (refused time_fault, w)
on_reading (Ok (At t)) w = read_to t w

-- a time field sets an unset clock, and is a reading of a running one
unfoldable pub setting_step : World → List ℕ → Reply × World
setting_step w xs = cond (fits_memory w) (on_setting (time_of xs) w) (refused (receiver_fault BodyMemoryMisfit), w)

unfoldable pub reading_step : World → List ℕ → Reply × World
reading_step w xs = cond (fits_memory w) (on_reading (time_of xs) w) (refused (receiver_fault BodyMemoryMisfit), w)

abbrev pub time_step : World → List ℕ → Reply × World
time_step w xs = cond (w.state.clock == 0) (setting_step w xs) (reading_step w xs)
