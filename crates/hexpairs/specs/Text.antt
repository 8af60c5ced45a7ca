-- Hexadecimal text: pairs of digits, with blanks around them but not within one.
use Rattle.std.specs.Prelude.{ℕ, ◌+◌, ◌-◌, ◌*◌, Bool, cond, ◌&&◌, ◌||◌, List, [], ◌∷◌, Some, None, Option, ◌==◌, nat_le}

-- the value of a digit: 0 to 9, A to F, a to f
abbrev pub digit_of : ℕ → Option ℕ
digit_of c =
    cond (nat_le 48 c && nat_le c 57) (Some (c - 48)) (cond (nat_le 65 c && nat_le c 70) (Some (c - 65 + 10)) (cond (nat_le 97 c && nat_le c 102) (Some (c - 97 + 10)) None))

-- space, tab or carriage return
abbrev pub blank : ℕ → Bool
blank c = c == 32 || (c == 9 || c == 13)

-- two halves of a byte, where both are there
abbrev pub halves : Option ℕ → Option ℕ → Option ℕ
halves None low = None
halves (Some h) None = None
halves (Some h) (Some l) = Some (h * 16 + l)

-- the byte of two digits, the upper half first
abbrev pub byte_of : ℕ → ℕ → Option ℕ
byte_of a b = halves (digit_of a) (digit_of b)

-- a byte in front of others, where all are there
abbrev pub before : Option ℕ → Option (List ℕ) → Option (List ℕ)
before None ys = None
before (Some x) None = None
before (Some x) (Some ys) = Some (x ∷ ys)

-- the bytes that a text spells, or none where it is no such text
abbrev pub bytes_of : List ℕ → Option (List ℕ)
bytes_of [] = Some []
bytes_of (a ∷ []) = cond (blank a) (Some []) None
bytes_of (a ∷ b ∷ xs) = cond (blank a) (bytes_of (b ∷ xs)) (before (byte_of a b) (bytes_of xs))
