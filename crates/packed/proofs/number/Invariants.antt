use Rattle.std.proofs.Common.{◌≡◌, ◌*◌, ◌^◌, ◌<◌, drop}
use Rattle.packed.specs.Bits.{whole_from, whole}
use Rattle.packed.proofs.number.Given as goal

-- what is left, written behind the number so far, gives the whole
abbrev pub invariant-loop-b : goal.invariant-loop-b
invariant-loop-b l =
    (whole_from l.n (drop l.b-index l.bytes) ≡ whole l.bytes) × (l.n < 2 ^ (8 * l.b-index))
