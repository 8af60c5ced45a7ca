-- What the program prints of an input.
use Rattle.std.specs.Prelude.{ℕ, List, replicate}
use Rattle.display.specs.Meaning.{blank}
use Rattle.records.specs.Lines.{lines_from}
use Rattle.records.specs.Records.{records_of}
use Rattle.records.specs.Sent.{calls_from}
use Rattle.records.specs.Texts.{text_of}
use Rattle.rules.specs.Runs.{opened, replies}
use Rattle.rules.specs.Worlds.{World}

-- a panel of 4,096 bytes, slots of that size, and memory for twelve bodies
abbrev pub opening : World
opening = opened (blank 4096) 4096 (replicate 49152 0)

-- a line for each record, from the replies that the rules give to the calls of all records
abbrev pub printed : List ℕ → List ℕ
printed xs = text_of (lines_from 1 (records_of xs) (replies opening (calls_from (records_of xs))))
