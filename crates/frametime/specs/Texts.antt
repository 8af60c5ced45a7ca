-- How answers are printed.
use Rattle.std.specs.Prelude.{ℕ, List, ◌∷◌, ◌++◌, Ok, Err, Result, codes}
use Rattle.std.specs.Fmt.{decimal}
use Rattle.frametime.specs.declared.lines.Frames.{Frames}
use Rattle.frametime.specs.declared.lines.NoTime.{NoTime}
use Rattle.frametime.specs.declared.lines.NoTime.TheVariants.{NotHexadecimal, Refused}
use Rattle.frametime.specs.declared.lines.Shown.{Shown}
use Rattle.frametime.specs.declared.lines.Shown.TheVariants.{AtOnce, Settled}
use Rattle.frametime.specs.declared.timings.OutOfRange.{OutOfRange}
use Rattle.frametime.specs.declared.timings.OutOfRange.TheVariants.{Period, Delay}
use Rattle.hexpairs.specs.Dashes.{text_or_dash}
use Rattle.refusal.specs.Numbers.{number_of, layer_number}
use Rattle.refusal.specs.declared.Fault.{Fault}

-- a refusal: its number, its layer and its place
abbrev pub refusal_text : Fault → List ℕ
refusal_text e =
    codes "refused " ++ decimal (number_of e.cause) ++ 32 ∷ decimal (layer_number e.layer) ++ 32 ∷ decimal e.place

-- the moment, its day, its milliseconds, and when each pile of displays shows it: seven numbers parted by spaces
abbrev pub frames_text : Frames → List ℕ
frames_text f =
    decimal f.moment ++ 32 ∷ decimal f.day ++ 32 ∷ decimal f.millis ++ 32 ∷ text_or_dash decimal f.panel ++ 32 ∷ text_or_dash decimal f.edge ++ 32 ∷ text_or_dash decimal f.lag_over_edge ++ 32 ∷ text_or_dash decimal f.edge_over_lag

abbrev pub shown_text : Shown → List ℕ
shown_text AtOnce = codes "now"
shown_text (Settled f) = frames_text f

abbrev pub no_time_text : NoTime → List ℕ
no_time_text NotHexadecimal = codes "not hexadecimal"
no_time_text (Refused e) = refusal_text e

abbrev pub answer_text : Result Shown NoTime → List ℕ
answer_text (Ok s) = shown_text s
answer_text (Err e) = no_time_text e

-- which setting is out of range, and its refusal
abbrev pub out_of_range_text : OutOfRange → List ℕ
out_of_range_text (Period e) = codes "period " ++ refusal_text e
out_of_range_text (Delay e) = codes "delay " ++ refusal_text e
