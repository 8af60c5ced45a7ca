-- The numbers that the library reads from four and from eight bytes.
use Rattle.std.proofs.Common.{◌≡◌, ℕ, List, [], ◌∷◌, length, arith}
use Rattle.std.specs.Int.{from_be_bytes, w32, w64}
use Rattle.packed.specs.Bits.{whole}

pub whole_four : (xs : List ℕ) → length xs ≡ 4 → from_be_bytes w32 xs ≡ whole xs
whole_four (a ∷ b ∷ c ∷ d ∷ []) e = omega arith
whole_four [] e = omega arith
whole_four (a ∷ []) e = omega arith
whole_four (a ∷ b ∷ []) e = omega arith
whole_four (a ∷ b ∷ c ∷ []) e = omega arith
whole_four (a ∷ b ∷ c ∷ d ∷ x ∷ xs) e = omega arith

pub whole_eight : (xs : List ℕ) → length xs ≡ 8 → from_be_bytes w64 xs ≡ whole xs
whole_eight (a ∷ b ∷ c ∷ d ∷ e ∷ f ∷ g ∷ h ∷ []) p = omega arith
whole_eight [] p = omega arith
whole_eight (a ∷ []) p = omega arith
whole_eight (a ∷ b ∷ []) p = omega arith
whole_eight (a ∷ b ∷ c ∷ []) p = omega arith
whole_eight (a ∷ b ∷ c ∷ d ∷ []) p = omega arith
whole_eight (a ∷ b ∷ c ∷ d ∷ e ∷ []) p = omega arith
whole_eight (a ∷ b ∷ c ∷ d ∷ e ∷ f ∷ []) p = omega arith
whole_eight (a ∷ b ∷ c ∷ d ∷ e ∷ f ∷ g ∷ []) p = omega arith
whole_eight (a ∷ b ∷ c ∷ d ∷ e ∷ f ∷ g ∷ h ∷ x ∷ xs) p = omega arith
