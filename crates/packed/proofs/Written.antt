-- A number written in bytes is read back.
use Rattle.std.proofs.Common.{◌≡◌, ℕ, zero, suc, ◌+◌, ◌*◌, ◌/◌, ◌%◌, ◌^◌, ◌<◌, length, sym, refl, ap, ◌∙◌, mod-eq_of_lt, mul_assoc, add-mul, div-one, arith, pow-add}
use lib.Pow.{mod-pow-add}
use Rattle.packed.specs.Bits.{whole_from, whole, bytes_of}

pub length_bytes_of : (k n : ℕ) → length (bytes_of k n) ≡ k
length_bytes_of zero n = refl
length_bytes_of (suc k) n = ap suc (length_bytes_of k n)

-- bytes written behind m
pub whole_from_bytes : (k m n : ℕ) → whole_from m (bytes_of k n) ≡ m * 2 ^ (8 * k) + n % 2 ^ (8 * k)
whole_from_bytes zero m n = omega arith
whole_from_bytes (suc k) m n =
    let e : 8 * suc k ≡ 8 + 8 * k = omega arith in
    let wide : 2 ^ (8 * suc k) ≡ 256 * 2 ^ (8 * k) = ap (λ (i : ℕ). 2 ^ i) e ∙ pow-add 2 8 (8 * k) in
    let parts : n % 2 ^ (8 * suc k) ≡ (n / 2 ^ (8 * k) % 256) * 2 ^ (8 * k) + n % 2 ^ (8 * k) = ap (λ (i : ℕ). n % 2 ^ i) e ∙ mod-pow-add n 8 (8 * k) in
    let high : m * 2 ^ (8 * suc k) ≡ m * 256 * 2 ^ (8 * k) = ap (λ (i : ℕ). m * i) wide ∙ sym (mul_assoc m 256 (2 ^ (8 * k))) in
    whole_from_bytes k (m * 256 + n / 2 ^ (8 * k) % 256) n ∙ omega (arith, high, parts, add-mul (m * 256) (n / 2 ^ (8 * k) % 256) (2 ^ (8 * k)))

-- a number that fits is the one read back
pub whole_bytes : (k n : ℕ) → n < 2 ^ (8 * k) → whole (bytes_of k n) ≡ n
whole_bytes k n h = whole_from_bytes k 0 n ∙ omega (arith, mod-eq_of_lt h)

-- the last byte needs no division
pub last_byte : (n : ℕ) → n / 1 % 256 ≡ n % 256
last_byte n = ap (λ (i : ℕ). i % 256) (div-one n)
