-- The register holds what division leaves.
use Rattle.std.proofs.Common.{◌≡◌, ℕ, zero, suc, ◌+◌, ◌*◌, ◌/◌, ◌%◌, ◌^◌, ◌<◌, ◌-◌, List, [], ◌∷◌, ◌++◌, length, bit_xor, sym, refl, ap, ◌∙◌, subst, lit<, arith, pow-suc, mul_assoc}
use Rattle.std.proofs.lemmas.Nat.{xor_comm, xor_lt, xor_block}
use Rattle.std.specs.List.{AllByRecursion}
use lib.Bits.{xor_assoc, xor_self, xor_zero_l, xor_zero_r, xor_shifted}
use Rattle.checksum.specs.Registers.{taps, feedback, shifted, bits_of, bits, register}
use Rattle.checksum.specs.Divisions.{generator, polynomial_from, multiple_from, Leaves}

abbrev IsBit : ℕ → Type 0
IsBit b = b < 2

-- two bits added
add_bits : (a b : ℕ) → a < 2 → b < 2 → bit_xor a b ≡ (a + b) % 2
add_bits zero zero a b = refl
add_bits zero (suc zero) a b = refl
add_bits (suc zero) zero a b = refl
add_bits (suc zero) (suc zero) a b = refl
add_bits zero (suc (suc n)) a b = absurd (omega arith)
add_bits (suc zero) (suc (suc n)) a b = absurd (omega arith)
add_bits (suc (suc n)) m a b = absurd (omega arith)

-- twice a sum
twice : (a b : ℕ) → bit_xor (a * 2) (b * 2) ≡ bit_xor a b * 2
twice a b =
    let z : bit_xor (a * 2 + 0) (b * 2 + 0) ≡ bit_xor a b * 2 + 0 = xor_block 1 a b 0 0 (lit< tt) (lit< tt) in
    let p : a * 2 ≡ a * 2 + 0 = omega arith in
    let q : b * 2 ≡ b * 2 + 0 = omega arith in
    (λ i. bit_xor (p i) (q i)) ∙ z ∙ omega arith

-- the register moved on by a bit is what was in it, times x, less the generator where it is in that
moved : (r b : ℕ) → r < 2 ^ 16 → b < 2 → bit_xor (r * 2) (b * 2 ^ 16) ≡ bit_xor (feedback r b * generator) (shifted r b)
moved r b small bit =
    let t = feedback r b in
    let low = r * 2 % 2 ^ 16 in
    let tapped = t * taps in
    let t_bit : feedback r b < 2 = omega arith in
    let tapped_small : feedback r b * taps < 2 ^ 16 = omega arith in
    let low_small : r * 2 % 2 ^ 16 < 2 ^ 16 = omega arith in
    let p : r * 2 ≡ r / 2 ^ 15 * 2 ^ 16 + r * 2 % 2 ^ 16 = omega arith in
    let q : b * 2 ^ 16 ≡ b * 2 ^ 16 + 0 = omega arith in
    let front : bit_xor (r / 2 ^ 15) b ≡ feedback r b = add_bits (r / 2 ^ 15) b (omega arith) bit in
    let left : bit_xor (r * 2) (b * 2 ^ 16) ≡ feedback r b * 2 ^ 16 + r * 2 % 2 ^ 16 =
    (λ i. bit_xor (p i) (q i)) ∙ xor_block 16 (r / 2 ^ 15) b low 0 low_small (lit< tt) ∙ (λ i. front i * 2 ^ 16 + xor_zero_r low i) in
    let u : feedback r b * generator ≡ feedback r b * 2 ^ 16 + feedback r b * taps = omega arith in
    let v : shifted r b ≡ 0 * 2 ^ 16 + shifted r b = omega arith in
    let again : bit_xor (feedback r b * taps) (shifted r b) ≡ r * 2 % 2 ^ 16 =
    xor_comm tapped (bit_xor low tapped) ∙ xor_assoc low tapped tapped ∙ ap (bit_xor low) (xor_self tapped) ∙ xor_zero_r low in
    let right : bit_xor (feedback r b * generator) (shifted r b) ≡ feedback r b * 2 ^ 16 + r * 2 % 2 ^ 16 =
    (λ i. bit_xor (u i) (v i)) ∙ xor_block 16 t 0 tapped (shifted r b) tapped_small (xor_lt 16 low tapped low_small tapped_small) ∙ (λ i. xor_zero_r t i * 2 ^ 16 + again i) in
    left ∙ sym right

-- the dividend, one coefficient after the other
dividend_from : ℕ → List ℕ → ℕ
dividend_from l [] = l
dividend_from l (b ∷ bs) = dividend_from (bit_xor (l * 2) (b * 2 ^ 16)) bs

record Divides (p l r : ℕ) (bs : List ℕ) : Type 0 where
  quotient : List ℕ
  small : register r bs < 2 ^ 16
  same : dividend_from l bs ≡ bit_xor (multiple_from p quotient) (register r bs)

divides : (bs : List ℕ) (p l r : ℕ) → AllByRecursion IsBit bs → r < 2 ^ 16 → l ≡ bit_xor p r → Divides p l r bs
unfolding dividend_from
divides [] p l r bits small e = record { quotient = []; small = small; same = e }
divides (b ∷ bs) p l r all small e =
    let t = feedback r b in
    let next : bit_xor (l * 2) (b * 2 ^ 16) ≡ bit_xor (bit_xor (p * 2) (feedback r b * generator)) (shifted r b) =
    ap (λ (n : ℕ). bit_xor (n * 2) (b * 2 ^ 16)) e
    ∙ ap (λ (n : ℕ). bit_xor n (b * 2 ^ 16)) (sym (twice p r))
    ∙ xor_assoc (p * 2) (r * 2) (b * 2 ^ 16)
    ∙ ap (bit_xor (p * 2)) (moved r b small all.0)
    ∙ sym (xor_assoc (p * 2) (t * generator) (shifted r b)) in
    let low : shifted r b < 2 ^ 16 = xor_lt 16 (r * 2 % 2 ^ 16) (t * taps) (omega arith) (omega arith) in
    let d = divides bs (bit_xor (p * 2) (t * generator)) (bit_xor (l * 2) (b * 2 ^ 16)) (shifted r b) all.1 low next in
    record { quotient = t ∷ d.quotient; small = d.small; same = d.same }

-- the dividend is the message times x^16, with what it began with in front
behind : (n l b : ℕ) → b < 2 → bit_xor (bit_xor (n * 2 ^ 16) l * 2) (b * 2 ^ 16) ≡ bit_xor ((n * 2 + b) * 2 ^ 16) (l * 2)
behind n l b bit =
    let a = n * 2 * 2 ^ 16 in
    let c = b * 2 ^ 16 in
    let p : n * 2 ^ 16 * 2 ≡ n * 2 * 2 ^ 16 = omega arith in
    let q : n * 2 * 2 ^ 16 ≡ n * 2 * 2 ^ 16 + 0 = omega arith in
    let s : b * 2 ^ 16 ≡ b * 2 ^ 16 + 0 = omega arith in
    let joined : bit_xor (n * 2 * 2 ^ 16) (b * 2 ^ 16) ≡ (n * 2 + b) * 2 ^ 16 =
    (λ i. bit_xor (q i) (s i)) ∙ xor_block 16 (n * 2) b 0 0 (lit< tt) (lit< tt) ∙ (λ i. xor_shifted n 1 b bit i * 2 ^ 16 + 0) ∙ omega arith in
    ap (λ (x : ℕ). bit_xor x c) (sym (twice (n * 2 ^ 16) l) ∙ ap (λ (x : ℕ). bit_xor x (l * 2)) p)
    ∙ xor_assoc a (l * 2) c
    ∙ ap (bit_xor a) (xor_comm (l * 2) c)
    ∙ sym (xor_assoc a c (l * 2))
    ∙ ap (λ (x : ℕ). bit_xor x (l * 2)) joined

dividend : (bs : List ℕ) (n l : ℕ) → AllByRecursion IsBit bs → dividend_from (bit_xor (n * 2 ^ 16) l) bs ≡ bit_xor (polynomial_from n bs * 2 ^ 16) (l * 2 ^ length bs)
unfolding dividend_from
dividend [] n l all = let p : l ≡ l * 1 = omega arith in ap (bit_xor (n * 2 ^ 16)) p
dividend (b ∷ bs) n l all =
    let p : l * 2 * 2 ^ length bs ≡ l * 2 ^ suc (length bs) = rw pow-suc (omega (arith, mul_assoc l 2 (2 ^ length bs))) in
    ap (λ (x : ℕ). dividend_from x bs) (behind n l b all.0)
    ∙ dividend bs (n * 2 + b) (l * 2) all.1
    ∙ ap (bit_xor (polynomial_from (n * 2 + b) bs * 2 ^ 16)) p

-- each bit is one
of_byte : (k n : ℕ) (ys : List ℕ) → AllByRecursion IsBit ys → AllByRecursion IsBit (bits_of k n ++ ys)
of_byte zero n ys all = all
of_byte (suc k) n ys all = (omega arith, of_byte k n ys all)

of_bytes : (xs : List ℕ) → AllByRecursion IsBit (bits xs)
of_bytes [] = tt
of_bytes (x ∷ xs) = of_byte 8 x (bits xs) (of_bytes xs)

leaves : (xs : List ℕ) → Leaves (bits xs) (register 65535 (bits xs))
leaves xs =
    let all = of_bytes xs in
    let d = divides (bits xs) 0 65535 65535 all (lit< tt) (sym (xor_zero_l 65535)) in
    record {
      quotient = d.quotient;
      small = d.small;
      same = sym (dividend (bits xs) 0 65535 all) ∙ ap (λ (l : ℕ). dividend_from l (bits xs)) (xor_zero_l 65535) ∙ d.same;
    }

-- complemented twice
pub divided : (xs : List ℕ) (r : ℕ) → r < 65536 → r ≡ register 65535 (bits xs) → Leaves (bits xs) (65535 - (65535 - r))
divided xs r small is =
    let back : r ≡ 65535 - (65535 - r) = omega arith in
    subst (Leaves (bits xs)) (sym is ∙ back) (leaves xs)
