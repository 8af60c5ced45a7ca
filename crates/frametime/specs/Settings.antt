-- Which settings a period and a delay make.
use Rattle.std.specs.Prelude.{ℕ, cond, ◌&&◌, Ok, Err, Result, nat_le}
use Rattle.display.specs.Setting.{setting_fault}
use Rattle.frametime.specs.declared.timings.OutOfRange.{OutOfRange}
use Rattle.frametime.specs.declared.timings.OutOfRange.TheVariants.{Period, Delay}
use Rattle.frametime.specs.declared.timings.Timing.{Timing}

-- the period is to be 1 to 1,000 milliseconds, the delay at most 1,000; where both are out of range the period is told
abbrev pub made_from : ℕ → ℕ → Result (ℕ × ℕ) OutOfRange
made_from p d =
    cond (nat_le 1 p && nat_le p 1000) (cond (nat_le d 1000) (Ok (p, d)) (Err (Delay setting_fault))) (Err (Period setting_fault))

-- the settings of the code by their milliseconds
abbrev pub seen : Result Timing OutOfRange → Result (ℕ × ℕ) OutOfRange
seen (Ok t) = Ok (t.period.value, t.delay.value)
seen (Err e) = Err e
