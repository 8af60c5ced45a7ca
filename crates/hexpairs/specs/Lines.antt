-- The lines of a text.
use Rattle.std.specs.Prelude.{◌≡◌, ℕ, cond, ◌⊎◌, List, [], ◌∷◌, ◌++◌, length, ◌==◌, ◌≢◌}
use Rattle.std.specs.List.{AllByRecursion}
use Rattle.hexpairs.specs.declared.lines.Lines.{Lines}

-- line is the first of xs: no line feed is in it, and either one stands behind it or it is all
abbrev pub FirstLine : List ℕ → List ℕ → List ℕ → Type 0
FirstLine xs line rest = AllByRecursion (λ b. b ≢ 10) line × ((xs ≡ line ++ 10 ∷ rest) ⊎ ((xs ≡ line) × (rest ≡ [])))

-- the lines of a text, with `line` read so far: each ends at a line feed, which the last may lack
abbrev pub lines_from : List ℕ → List ℕ → List (List ℕ)
lines_from line [] = cond (length line == 0) [] (line ∷ [])
lines_from line (c ∷ cs) = cond (c == 10) (line ∷ lines_from [] cs) (lines_from (line ++ c ∷ []) cs)

abbrev pub lines_of : List ℕ → List (List ℕ)
lines_of xs = lines_from [] xs

-- the lines that an iterator has still to give
abbrev pub left_of : Lines → List (List ℕ)
left_of l = lines_of l.left.now
