-- Lines as text.
use Rattle.std.specs.Prelude.{ℕ, List, [], ◌∷◌, ◌++◌, decimal}
use Rattle.records.specs.declared.facts.Line.{Line}

-- four numbers in decimal digits, parted by spaces
abbrev pub line_text : Line → List ℕ
line_text l = decimal l.number ++ 32 ∷ decimal l.refusal ++ 32 ∷ decimal l.accession ++ 32 ∷ decimal l.since

-- each line, and a line feed behind it
abbrev pub text_of : List Line → List ℕ
text_of [] = []
text_of (l ∷ ls) = line_text l ++ 10 ∷ text_of ls
