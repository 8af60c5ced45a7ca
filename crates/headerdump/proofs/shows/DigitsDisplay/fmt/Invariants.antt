use Rattle.std.proofs.Common.{take}
use Rattle.std.specs.Fmt.{HasWritten, IsPlainFormatter}
use Rattle.headerdump.specs.Texts.{digits_text}
use Rattle.headerdump.proofs.shows.DigitsDisplay.fmt.Given as goal

-- the digits of the bytes looked at are written
abbrev pub invariant-loop-b : goal.invariant-loop-b
invariant-loop-b g l =
    IsPlainFormatter l.initial.f → HasWritten g.W.Write.write_str_gives l.initial.f (digits_text (take l.b-index l.b-items)) l.f
