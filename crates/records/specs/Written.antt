-- Records as they are written, and the law that reading gives them back.
use Rattle.std.specs.Prelude.{◌≡◌, ℕ, ◌+◌, ◌*◌, ◌<◌, ◌≤◌, List, [], ◌∷◌, ◌++◌, map, length, Result}
use Rattle.packed.specs.Bits.{bytes_of}
use Rattle.refusal.specs.declared.Fault.{Fault}
use Rattle.rules.specs.Calls.{Call}
use Rattle.std.specs.List.{AllByRecursion}
use Rattle.records.specs.Records.{said_by}

-- a kind and a payload
pub record Sheet : Type 0 where
  pub kind : ℕ
  pub payload : List ℕ

-- 3 bits hold the kind, and 13 the payload's size
abbrev pub Fits : Sheet → Type 0
Fits s = (s.kind < 8) × (length s.payload < 8192)

-- kind and size in two bytes, and the payload behind them
abbrev pub written : Sheet → List ℕ
written s = bytes_of 2 (s.kind * 8192 + length s.payload) ++ s.payload

abbrev pub all_written : List Sheet → List ℕ
all_written [] = []
all_written (s ∷ ss) = written s ++ all_written ss

-- rs is what stands in xs: where xs is what was written of some records, and not too long, each says what its kind and its
-- payload say
abbrev pub GivesBack : List ℕ → List (Result Call Fault) → Type 0
GivesBack xs rs =
    (ss : List Sheet) → AllByRecursion Fits ss → xs ≡ all_written ss → length xs ≤ 32768 → rs ≡ map (λ s. said_by s.kind s.payload) ss
