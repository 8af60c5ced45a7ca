-- Cases as they are written, and the law that each of them is told.
use Rattle.std.specs.Prelude.{◌≡◌, ℕ, ◌<◌, List, [], ◌∷◌, ◌++◌, length}
use Rattle.packed.specs.Bits.{bytes_of}
use Rattle.std.specs.List.{AllByRecursion}
use Rattle.tracecases.specs.Cases.{Case}
use Rattle.tracecases.specs.Told.{case_told}

-- a byte holds the name's length, and two the trace's
abbrev pub Fits : Case → Type 0
Fits c = (length c.name < 256) × (length c.trace < 65536)

abbrev pub written : Case → List ℕ
written c = length c.name ∷ c.name ++ (bytes_of 2 (length c.trace) ++ c.trace)

abbrev pub all_written : List Case → List ℕ
all_written [] = []
all_written (c ∷ cs) = written c ++ all_written cs

abbrev pub all_told : List Case → List ℕ
all_told [] = []
all_told (c ∷ cs) = case_told c ++ all_told cs

-- where xs is what was written of some cases, the text has the heading and the lines of each, in order
abbrev pub TellsEach : List ℕ → List ℕ → Type 0
TellsEach xs text = (cs : List Case) → AllByRecursion Fits cs → xs ≡ all_written cs → text ≡ all_told cs
