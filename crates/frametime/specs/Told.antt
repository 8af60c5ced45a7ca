-- What the program writes of an input and of its arguments, which are pairs of a period and a delay.
use Rattle.std.specs.Prelude.{ℕ, ◌+◌, List, [], ◌∷◌, ◌++◌, Ok, Err, Result, codes}
use Rattle.std.specs.Fmt.{decimal}
use Rattle.frametime.specs.Answers.{answers_to}
use Rattle.frametime.specs.Settings.{made_from}
use Rattle.frametime.specs.Texts.{answer_text, out_of_range_text}
use Rattle.frametime.specs.declared.lines.NoTime.{NoTime}
use Rattle.frametime.specs.declared.lines.Shown.{Shown}
use Rattle.frametime.specs.declared.texts.Pair.{Pair}
use Rattle.frametime.specs.declared.timings.OutOfRange.{OutOfRange}
use Rattle.hexpairs.specs.Lines.{lines_of}

-- a line's number, its answer and a line feed
abbrev pub answer_line : ℕ → Result Shown NoTime → List ℕ
answer_line n a = decimal n ++ 32 ∷ answer_text a ++ 10 ∷ []

-- the lines of answers, of which the first has the number n
abbrev pub lines_from : ℕ → List (Result Shown NoTime) → List ℕ
lines_from n [] = []
lines_from n (a ∷ more) = answer_line n a ++ lines_from (n + 1) more

-- the line above a pair's answers
abbrev pub heading : ℕ → ℕ → List ℕ
heading period delay = codes "period " ++ decimal period ++ codes " delay " ++ decimal delay ++ 10 ∷ []

-- the answers to the lines of an input, numbered from 1, or the refusal of a setting in place of them
abbrev pub told_with : Result (ℕ × ℕ) OutOfRange → List ℕ → List ℕ
told_with (Ok s) input = lines_from 1 (answers_to s.0 s.1 (lines_of input))
told_with (Err e) input = out_of_range_text e ++ 10 ∷ []

-- a pair and its answers to the whole input
abbrev pub pair_told : ℕ → ℕ → List ℕ → List ℕ
pair_told period delay input = heading period delay ++ told_with (made_from period delay) input

-- all pairs, one after the other
abbrev pub told : List Pair → List ℕ → List ℕ
told [] input = []
told (p ∷ ps) input = pair_told p.period p.delay input ++ told ps input
