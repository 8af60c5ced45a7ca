use Rattle.std.proofs.Common.{◌≡◌, ◌+◌, ◌++◌, drop}
use Rattle.checksum.specs.Registers.{bits, register}
use Rattle.checksum.proofs.filled.Given as goal

-- what the bits still to come make of the register is what all of them make of all ones
abbrev pub invariant-loop-byte : goal.invariant-loop-byte
invariant-loop-byte l = register l.register (bits (drop l.byte-index l.bytes)) ≡ register 65535 (bits l.bytes)

abbrev pub invariant-loop-bit : goal.invariant-loop-bit
invariant-loop-bit l =
    register l.register (drop l.bit-index l.bit-items ++ bits (drop (l.byte-index + 1) l.bytes)) ≡ register 65535 (bits l.bytes)
