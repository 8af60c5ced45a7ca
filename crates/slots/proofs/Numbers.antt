-- The set of numbers taken.
use Rattle.std.proofs.Common.{◌≡◌, ℕ, zero, suc, ◌+◌, ◌-◌, ◌*◌, ◌/◌, ◌%◌, ◌^◌, ◌<◌, ◌≤◌, Bool, true, false, cond, ◌&&◌, ◌||◌, eqb, ◌⊎◌, refl, sym, ap, ◌∙◌, inl, inr, arith, pow_pos, pow_mono, pow-add}
use native.Mathlib.Nat.{div-eq_of_lt, zero-div, div_self, mul-mod_left}
use lib.Bits.{bit_or, or_shr, or_mod}
use lib.Pow.{pow-lt, shl-shr}
use Rattle.std.proofs.lemmas.Nat.{mod_below}
use Rattle.std.proofs.lemmas.Bool.{cases_eq, cases_order, eq-eqb, ne_eqb, and_parts}
use Rattle.std.specs.List.{list_all, range_with_len}
use Rattle.std.proofs.Math.Bool.{and_comm, and_assoc, and-true}
use Rattle.slots.specs.Segments.{has, covers}

-- none is taken at first
pub has_none : (n : ℕ) → has n 0 ≡ false
has_none n = ap (λ (q : ℕ). eqb (q % 2) 1) (zero-div (2 ^ n))

-- a number past the width is not taken
pub has_past : (n taken : ℕ) → taken < 2 ^ 64 → 64 ≤ n → has n taken ≡ false
has_past n taken small past =
    let wide : 2 ^ 64 ≤ 2 ^ n = pow_mono past in
    let below : taken < 2 ^ n = omega arith in
    ap (λ (q : ℕ). eqb (q % 2) 1) (div-eq_of_lt below)

-- the bits of a power of two
bit_of : (i n : ℕ) → 2 ^ n / 2 ^ i % 2 ≡ cond (eqb i n) 1 0
bit_of i n = go (cases_order i n)
  where
    go : (i ≡ n) ⊎ ((i < n) ⊎ (n < i)) → 2 ^ n / 2 ^ i % 2 ≡ cond (eqb i n) 1 0
    go (inl e) = rw (eq-eqb i n e) (ap (λ (k : ℕ). 2 ^ n / 2 ^ k % 2) e ∙ ap (λ (q : ℕ). q % 2) (div_self (pow_pos n)))
    go (inr (inl h)) =
        let k : ℕ = n - i - 1 in
        let e : n ≡ (k + 1) + i = omega arith in
        let split : 2 ^ n ≡ 2 ^ (k + 1) * 2 ^ i = ap (λ (m : ℕ). 2 ^ m) e ∙ pow-add 2 (k + 1) i in
        let even : 2 ^ (k + 1) ≡ 2 ^ k * 2 = pow-add 2 k 1 in
        rw (ne_eqb i n (omega arith)) (ap (λ (m : ℕ). m / 2 ^ i % 2) split ∙ ap (λ (m : ℕ). m % 2) (shl-shr (2 ^ (k + 1)) i) ∙ ap (λ (m : ℕ). m % 2) even ∙ mul-mod_left (2 ^ k) 2)
    go (inr (inr h)) = rw (ne_eqb i n (omega arith)) (ap (λ (q : ℕ). q % 2) (div-eq_of_lt (pow-lt h)))

-- one of two bits
either_bit : (x y : ℕ) (b : Bool) → x < 2 → y ≡ cond b 1 0 → eqb (bit_or x y) 1 ≡ (b || eqb x 1)
either_bit x y b h e = go (cases_eq x 0) b e
  where
    go : (x ≡ 0) ⊎ (x ≡ 0 → ⊥) → (b : Bool) → y ≡ cond b 1 0 → eqb (bit_or x y) 1 ≡ (b || eqb x 1)
    go (inl z) true e = rw (z, e) refl
    go (inl z) false e = rw (z, e) refl
    go (inr d) true e = let z : x ≡ 1 = omega arith in rw (z, e) refl
    go (inr d) false e = let z : x ≡ 1 = omega arith in rw (z, e) refl

-- one number more
pub has_marked : (i n taken : ℕ) → has i (bit_or taken (2 ^ n)) ≡ (eqb i n || has i taken)
has_marked i n taken =
    ap (λ (m : ℕ). eqb (m % 2) 1) (or_shr taken (2 ^ n) i)
    ∙ ap (λ (m : ℕ). eqb m 1) (or_mod (taken / 2 ^ i) (2 ^ n / 2 ^ i) 1)
    ∙ either_bit (taken / 2 ^ i % 2) (2 ^ n / 2 ^ i % 2) (eqb i n) (mod_below (taken / 2 ^ i) 2 (omega arith)) (bit_of i n)

pub covers_has : (n taken : ℕ) → covers n taken ≡ true → (i : ℕ) → i < n → has i taken ≡ true
covers_has zero taken h i k = absurd (omega arith)
covers_has (suc n) taken h i k =
    let t = and_parts (has n taken) (covers n taken) h in
    go (cases_eq i n) (covers_has n taken t.1 i) t.0
  where
    go : (i ≡ n) ⊎ (i ≡ n → ⊥) → (i < n → has i taken ≡ true) → has n taken ≡ true → has i taken ≡ true
    go (inl e) ih t = rw e t
    go (inr d) ih t = ih (omega arith)

-- they are counted up from 0 as well as down from n
covers_from : (a n taken : ℕ) → (list_all (λ i. has i taken) (range_with_len a n) && covers a taken) ≡ covers (a + n) taken
covers_from a zero taken = let e : a ≡ a + 0 = omega arith in ap (λ (k : ℕ). covers k taken) e
covers_from a (suc n) taken =
    let next : suc a ≡ a + 1 = omega arith in
    let all : (a + 1) + n ≡ a + suc n = omega arith in
    let up : Bool = list_all (λ i. has i taken) (range_with_len (a + 1) n) in
    ap (λ (b : Bool). b && covers a taken) (and_comm (has a taken) up)
    ∙ and_assoc up (has a taken) (covers a taken)
    ∙ ap (λ (k : ℕ). up && covers k taken) next
    ∙ covers_from (a + 1) n taken
    ∙ ap (λ (k : ℕ). covers k taken) all

pub covers_up : (n taken : ℕ) → list_all (λ i. has i taken) (range_with_len 0 n) ≡ covers n taken
covers_up n taken =
    let e : 0 + n ≡ n = omega arith in
    sym (and-true (list_all (λ i. has i taken) (range_with_len 0 n))) ∙ covers_from 0 n taken ∙ ap (λ (k : ℕ). covers k taken) e
