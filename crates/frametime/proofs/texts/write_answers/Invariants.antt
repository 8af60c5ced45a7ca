use Rattle.std.proofs.Common.{◌≡◌, ◌+◌, ◌++◌, drop, string_bytes}
use Rattle.frametime.specs.Told.{lines_from}
use Rattle.frametime.specs.declared.texts.TheConstants.{FIRST_LINE}
use Rattle.frametime.proofs.texts.write_answers.Given as goal

-- the lines of what is left stand behind what is there
abbrev pub invariant-loop-i : goal.invariant-loop-i
invariant-loop-i l =
    string_bytes l.text ++ lines_from (l.i + FIRST_LINE) (drop l.i l.all) ≡ string_bytes l.fn.text ++ lines_from FIRST_LINE l.all
