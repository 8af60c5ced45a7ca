use Rattle.std.proofs.Common.{◌≡◌, ◌+◌, ◌^◌, ◌<◌, ◌++◌, length, string_bytes}
use Rattle.std.specs.Iterator.Adapters.{enumerate_source, enumerate_count}
use Rattle.hexpairs.specs.Lines.{lines_of, left_of}
use Rattle.headerdump.specs.Dumped.{lines_from}
use Rattle.headerdump.specs.declared.texts.TheConstants.{FIRST_LINE}
use Rattle.headerdump.proofs.texts.write_lines.Given as goal

-- what the lines that are left say goes behind what is there, and they can be counted
abbrev pub invariant-loop-i : goal.invariant-loop-i
invariant-loop-i l =
    let left = left_of (enumerate_source l.i-iterator) in
    let count = enumerate_count l.i-iterator in
    record {
      fits : count + length left < 2 ^ 64;
      text : string_bytes l.text ++ lines_from l.slot_size (count + FIRST_LINE) left ≡ string_bytes l.fn.text ++ lines_from l.slot_size FIRST_LINE (lines_of l.input);
    }
