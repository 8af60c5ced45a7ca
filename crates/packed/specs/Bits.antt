-- Packed fields: bytes as one number, and the fields of bits within it, most significant bit first.
use Rattle.std.specs.Prelude.{ℕ, zero, suc, ◌+◌, ◌-◌, ◌*◌, ◌/◌, ◌%◌, ◌^◌, List, [], ◌∷◌}

-- n with the bytes written behind it
abbrev pub whole_from : ℕ → List ℕ → ℕ
whole_from n [] = n
whole_from n (b ∷ bs) = whole_from (n * 256 + b) bs

-- the bytes as one number, the first byte most significant
abbrev pub whole : List ℕ → ℕ
whole xs = whole_from 0 xs

-- the `width` bits that begin behind the first `at` bits of the number n, which has `total` bits
abbrev pub field : ℕ → ℕ → ℕ → ℕ → ℕ
field total at width n = n / 2 ^ (total - (at + width)) % 2 ^ width

-- the number n written in k bytes
abbrev pub bytes_of : ℕ → ℕ → List ℕ
bytes_of zero n = []
bytes_of (suc k) n = (n / 2 ^ (8 * k) % 256) ∷ bytes_of k n
