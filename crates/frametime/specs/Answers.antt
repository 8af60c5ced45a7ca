-- What the program answers to the lines of its input, for a period and a delay.
use Rattle.std.specs.Prelude.{ℕ, List, map, cond, Some, None, Ok, Err, Option, Result, nat_le}
use Rattle.display.specs.Layering.{edge_over, lag_over}
use Rattle.display.specs.Meaning.{Meaning, blank, bound}
use Rattle.frametime.specs.declared.lines.Frames.{Frames}
use Rattle.frametime.specs.declared.lines.NoTime.{NoTime}
use Rattle.frametime.specs.declared.lines.NoTime.TheVariants.{NotHexadecimal, Refused}
use Rattle.frametime.specs.declared.lines.Shown.{Shown}
use Rattle.frametime.specs.declared.lines.Shown.TheVariants.{AtOnce, Settled}
use Rattle.hexpairs.specs.Text.{bytes_of}
use Rattle.moment.specs.Days.{split_of}
use Rattle.moment.specs.Field.{time_of}
use Rattle.moment.specs.declared.times.Time.{Time}
use Rattle.moment.specs.declared.times.Time.TheVariants.{Now, At}
use Rattle.refusal.specs.declared.Fault.{Fault}

-- a display that settles every moment to itself, as a panel does
abbrev pub plain : Meaning
plain = blank 0

-- when a display shows what it is told for the moment m; none above the bound of a show
abbrev pub settled : Meaning → ℕ → Option ℕ
settled d m = cond (nat_le m (bound d)) (Some (d.settle m)) None

module _ (period delay : ℕ) where
  -- the moment m, its day and milliseconds, and when each pile of displays shows what is told for it
  unfoldable pub frames_at : ℕ → Frames
  frames_at m =
      record { moment = m; day = (split_of m).0; millis = (split_of m).1; panel = settled plain m; edge = settled (edge_over period plain) m; lag_over_edge = settled (lag_over delay (edge_over period plain)) m; edge_over_lag = settled (edge_over period (lag_over delay plain)) m }

  -- the answer to what a time field says
  abbrev pub told : Result Time Fault → Result Shown NoTime
  told (Err e) = Err (Refused e)
  told (Ok Now) = Ok AtOnce
  told (Ok (At m)) = Ok (Settled (frames_at m))

  -- the answer to the bytes of a line, or to a line that spells none
  abbrev pub answer_to : Option (List ℕ) → Result Shown NoTime
  answer_to None = Err NotHexadecimal
  answer_to (Some xs) = told (time_of xs)

  -- an answer to each line of an input, in order
  abbrev pub answers_to : List (List ℕ) → List (Result Shown NoTime)
  answers_to texts = map (λ text. answer_to (bytes_of text)) texts
