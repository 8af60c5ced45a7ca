-- A part of memory written over by other bytes.
use Rattle.std.specs.Prelude.{ℕ, ◌+◌, List, ◌++◌, length, take, drop}

-- memory with `part` in the place of what lay from `at` on
abbrev pub pasted : List ℕ → ℕ → List ℕ → List ℕ
pasted memory at part = take at memory ++ (part ++ drop (at + length part) memory)
