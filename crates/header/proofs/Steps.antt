-- The steps of a run over parameters: each takes at least one byte, so their length is fuel enough.
use Rattle.std.proofs.Common.{◌≡◌, ℕ, zero, suc, ◌+◌, ◌-◌, ◌<◌, ◌≤◌, Bool, true, false, cond, eqb, leb, List, [], ◌∷◌, length, Some, None, Ok, Option, sym, refl, ap, ◌∙◌, arith, length-drop}
use Rattle.packed.specs.Bits.{field}
use Rattle.std.proofs.lemmas.Bool.{leb-true}
use Rattle.header.specs.Params.{mark_in, long_extent, marked_length, extent_with, extent_of, Part, first_within, first_of}
use Rattle.header.specs.Finds.{FoundRecord, taken}
use Rattle.header.specs.Headers.{part_at, params_from}
use Rattle.header.specs.declared.kinds.Kind.{Kind}
use Rattle.header.proofs.Chains.{none_not, passed, then_same, then_go, was_some, some_ok}

-- data that begin behind the first byte
abbrev Ahead : Option (ℕ × ℕ) → Type 0
Ahead None = Unit {0}
Ahead (Some e) = 0 < e.0

chosen : (b : Bool) (o p : Option (ℕ × ℕ)) → Ahead o → Ahead p → Ahead (cond b o p)
chosen true o p h k = h
chosen false o p h k = k

long_ahead : (xs : List ℕ) → Ahead (long_extent xs)
long_ahead [] = tt
long_ahead (a ∷ []) = chosen (eqb (field 8 0 1 a) 0) _ _ (omega arith) tt
long_ahead (a ∷ b ∷ xs) = chosen (eqb (field 8 0 1 a) 0) _ _ (omega arith) (omega arith)

ahead_with : (o : Option ℕ) (xs : List ℕ) → Ahead (extent_with o xs)
ahead_with (Some n) xs = omega arith
ahead_with None xs = long_ahead xs

-- the data never begin at the first byte
ahead : (xs : List ℕ) → Ahead (extent_of xs)
ahead [] = tt
ahead (h ∷ xs) = ahead_with (marked_length (mark_in h)) xs

shorter_within : (xs : List ℕ) (o : Option (ℕ × ℕ)) (p : Part) → Ahead o → first_within xs o ≡ Some p → length p.rest < length xs
shorter_within xs None p a e = absurd (none_not p e)
shorter_within xs (Some d) p a e =
    let (t, q) = passed (leb (d.0 + d.1) (length xs)) _ p e in
    omega (arith, leb-true (d.0 + d.1) (length xs) t, ap (λ (r : Part). length r.rest) q, length-drop (d.0 + d.1) xs)

-- what follows a parameter is shorter than what it begins
pub shorter : (xs : List ℕ) (p : Part) → first_of xs ≡ Some p → length p.rest < length xs
shorter xs p e = shorter_within xs (extent_of xs) p (ahead xs) e

-- more fuel than the length changes nothing
pub enough : (m n : ℕ) (k : Kind) (i : ℕ) (xs : List ℕ) (f : FoundRecord) → length xs ≤ m → length xs ≤ n → params_from m k i xs f ≡ params_from n k i xs f
enough zero zero k i xs f h g = refl
enough zero (suc n) k i [] f h g = refl
enough zero (suc n) k i (x ∷ xs) f h g = absurd (omega arith)
enough (suc m) zero k i [] f h g = refl
enough (suc m) zero k i (x ∷ xs) f h g = absurd (omega arith)
enough (suc m) (suc n) k i [] f h g = refl
enough (suc m) (suc n) k i (x ∷ xs) f h g =
    then_same (part_at i (x ∷ xs)) _ _ λ p e. then_same (taken k i p f) _ _ λ r e'. let l = shorter (x ∷ xs) p (was_some (first_of (x ∷ xs)) _ p e) in enough m n k _ p.rest r (omega arith) (omega arith)

-- one parameter and then the rest
pub one_more : (k : Kind) (i : ℕ) (xs : List ℕ) (f g : FoundRecord) (p : Part) → Some p ≡ first_of xs → Ok g ≡ taken k i p f → 0 < length xs → params_from (length p.rest) k (i + (length xs - length p.rest)) p.rest g ≡ params_from (length xs) k i xs f
one_more k i [] f g p e t h = absurd (omega arith)
one_more k i (x ∷ xs) f g p e t h =
    let s = shorter (x ∷ xs) p (sym e) in
    enough (length p.rest) (length xs) k _ p.rest g (omega arith) (omega arith) ∙ sym (then_go _ _ p _ (some_ok (first_of (x ∷ xs)) _ p (sym e)) (then_go _ _ g _ (sym t) refl))
