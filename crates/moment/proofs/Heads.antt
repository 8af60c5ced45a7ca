-- A long field read by its first 32 bits, which stand in front of 16 more.
use Rattle.std.specs.Prelude.{◌≡◌, ℕ, ◌/◌, ◌%◌, refl}
use Rattle.std.proofs.Math.Nat.{div-div-eq-div-mul, div-one}
use Rattle.moment.specs.Field.{time_with, long_time, minutes, milliseconds}

pub long_by_head : (w : ℕ) → time_with (w / 65536) 1 (w / 1024 % 64) (w % 1024) ≡ long_time w
long_by_head w =
    let behind = div-div-eq-div-mul w 65536 in
    simp (behind 2147483648, behind 2048, behind 16384, behind 64, div-one, minutes, milliseconds, long_time) refl
