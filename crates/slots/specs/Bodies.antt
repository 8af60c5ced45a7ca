-- A body that is put together in memory: the segments of the code by their bytes.
use Rattle.std.specs.Prelude.{ℕ, List, map}
use Rattle.slots.specs.Pieces as pieces
use Rattle.slots.specs.Pieces.{Receipt, begun, received_all}
use Rattle.slots.specs.declared.bodies.Sent.{Sent}

abbrev pub sent_of : Sent → pieces.Sent
sent_of s = record { number = s.number; last = s.last; bytes = s.bytes.now }

-- what becomes of an object of B bytes, whose body begins at base of the memory m, by these segments
unfoldable pub assembled : ℕ → ℕ → List ℕ → List Sent → Receipt
assembled base B m ss = received_all base (begun B m) (map sent_of ss)
