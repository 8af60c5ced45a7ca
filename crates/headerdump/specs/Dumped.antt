-- What the program writes of an input, for slots of a size.
use Rattle.std.specs.Prelude.{ℕ, ◌+◌, List, [], ◌∷◌, ◌++◌, Some, None, Ok, Err, Option, Result}
use Rattle.std.specs.Fmt.{decimal}
use Rattle.refusal.specs.declared.Fault.{Fault}
use Rattle.header.specs.Headers.{HeaderRecord}
use Rattle.headerdump.specs.Lines.{line_of}
use Rattle.headerdump.specs.Texts.{header_text, no_header_text}
use Rattle.headerdump.specs.declared.answers.NoHeader.TheVariants.{NoBytes, Refused}
use Rattle.hexpairs.specs.Lines.{lines_of}
use Rattle.hexpairs.specs.Text.{bytes_of}

-- what a line says, or that it spells no bytes
abbrev pub said_text : Option (Result HeaderRecord Fault) → List ℕ
said_text None = no_header_text NoBytes
said_text (Some (Ok h)) = header_text h
said_text (Some (Err e)) = no_header_text (Refused e)

-- a line's number, what it says and a line feed
abbrev pub line_text : ℕ → Option (Result HeaderRecord Fault) → List ℕ
line_text n said = decimal n ++ 32 ∷ said_text said ++ 10 ∷ []

-- the lines of texts, of which the first has the number n
abbrev pub lines_from : ℕ → ℕ → List (List ℕ) → List ℕ
lines_from slot n [] = []
lines_from slot n (text ∷ more) = line_text n (line_of (bytes_of text) slot) ++ lines_from slot (n + 1) more

-- a line for each line of the input, numbered from 1
abbrev pub dumped : ℕ → List ℕ → List ℕ
dumped slot input = lines_from slot 1 (lines_of input)
