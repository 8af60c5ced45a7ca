-- Fields of bits, and the bytes that hold them.
use Rattle.std.proofs.Common.{◌≡◌, ℕ, zero, suc, ◌+◌, ◌*◌, ◌/◌, ◌%◌, ◌^◌, ◌<◌, Bool, true, false, eqb, List, [], ◌∷◌, ◌++◌, refl, ◌∙◌, subst, arith}
use Rattle.packed.proofs.Written.{last_byte}
use Rattle.packed.specs.Bits.{field, whole, bytes_of}
use Rattle.std.specs.List.{AllByRecursion}
use Rattle.std.proofs.lemmas.Bool.{eqb-true}
use Rattle.datagroup.specs.Fields.{segment_flag, access_flag, type_in}
use Rattle.datagroup.specs.Written.{bit}

abbrev pub Bytes : List ℕ → Type 0
Bytes xs = AllByRecursion (λ b. b < 256) xs

-- what stands behind some bytes
first_part : (xs ys : List ℕ) → Bytes (xs ++ ys) → Bytes ys
first_part [] ys all = all
first_part (x ∷ xs) ys all = first_part xs ys all.1

pub behind : (xs ys zs : List ℕ) → Bytes zs → zs ≡ xs ++ ys → Bytes ys
behind xs ys zs all e = first_part xs ys (subst (Bytes) e all)

-- the front of some bytes
pub before : (xs ys : List ℕ) → Bytes (xs ++ ys) → Bytes xs
before [] ys all = tt
before (x ∷ xs) ys all = (all.0, before xs ys all.1)

pub bit_is : (q : ℕ) → q < 2 → bit (eqb q 1) ≡ q
bit_is zero h = refl
bit_is (suc zero) h = refl
bit_is (suc (suc n)) h = absurd (omega arith)

pub bit_small : (b : Bool) → bit b < 2
bit_small true = omega arith
bit_small false = omega arith

pub two_bytes : (c d : ℕ) → c < 256 → d < 256 → bytes_of 2 (whole (c ∷ d ∷ [])) ≡ c ∷ d ∷ []
two_bytes c d h k =
    let n : ℕ = whole (c ∷ d ∷ []) in
    let high : whole (c ∷ d ∷ []) / 256 % 256 ≡ c = omega arith in
    let low : whole (c ∷ d ∷ []) / 1 % 256 ≡ d = last_byte n ∙ omega arith in
    (λ i. high i ∷ low i ∷ [])

-- a byte with these flags and this type
pub head_is : (a e c : ℕ) → a < 256 → field 8 0 1 a ≡ e → field 8 1 1 a ≡ c → segment_flag a ≡ true → access_flag a ≡ true → a ≡ e * 2 ^ 7 + c * 2 ^ 6 + 2 ^ 5 + 2 ^ 4 + type_in a
head_is a e c h x y s t =
    let s1 : field 8 2 1 a ≡ 1 = eqb-true _ _ s in
    let t1 : field 8 3 1 a ≡ 1 = eqb-true _ _ t in
    omega arith
