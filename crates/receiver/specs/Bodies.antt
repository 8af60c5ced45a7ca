-- The bytes of a body that is lent, or the refusal.
use Rattle.std.specs.Prelude.{ℕ, List, Ok, Err, Result}
use Rattle.std.specs.Borrow.{Bor}
use Rattle.refusal.specs.declared.Fault.{Fault}

abbrev pub bytes_of : Result (Bor (List ℕ)) Fault → Result (List ℕ) Fault
bytes_of (Ok b) = Ok b.now
bytes_of (Err e) = Err e
