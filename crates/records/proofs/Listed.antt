-- The records of a trace, one after the other.
use Rattle.std.proofs.Common.{◌≡◌, ℕ, zero, suc, ◌<◌, ◌≤◌, Bool, true, false, cond, leb, List, [], ◌∷◌, ◌++◌, map, length, drop, Result, sym, refl, ap, ◌∙◌, arith, length-drop}
use Rattle.calls.specs.declared.Call as plain
use Rattle.packed.specs.Bits.{field, whole}
use Rattle.refusal.specs.declared.Fault.{Fault}
use Rattle.rules.specs.Calls.{Call}
use Rattle.std.proofs.lemmas.List.{append_assoc, map-append}
use Rattle.records.specs.Records.{record_with, first_record, records_from, seen}

record_rest : (kind size : ℕ) (xs : List ℕ) → length (record_with kind size xs).1 ≤ length xs
record_rest kind size xs = by (leb size (length xs)) _ _
  where
    by : (b : Bool) (r s : Result Call Fault) → length (cond {A = Result Call Fault × List ℕ} b (r, drop size xs) (s, [])).1 ≤ length xs
    by true r s = simp length-drop (omega arith)
    by false r s = omega arith

-- what stands behind a record is shorter than what it begins
pub shorter : (xs : List ℕ) → 0 < length xs → length (first_record xs).1 < length xs
shorter [] h = absurd (omega arith)
shorter (a ∷ []) h = omega arith
shorter (a ∷ b ∷ xs) h =
    omega (arith, record_rest (field 16 0 3 (whole (a ∷ b ∷ []))) (field 16 3 13 (whole (a ∷ b ∷ []))) xs)

none : (n : ℕ) → records_from n [] ≡ []
none zero = refl
none (suc n) = refl

-- steps beyond the length change nothing
enough : (n m : ℕ) (xs : List ℕ) → length xs ≤ n → length xs ≤ m → records_from n xs ≡ records_from m xs
enough n m [] h k = none n ∙ sym (none m)
enough zero m (x ∷ xs) h k = absurd (omega arith)
enough (suc n) zero (x ∷ xs) h k = absurd (omega arith)
enough (suc n) (suc m) (x ∷ xs) h k =
    let less = shorter (x ∷ xs) (omega arith) in
    ap (λ (rs : List (Result Call Fault)). (first_record (x ∷ xs)).0 ∷ rs) (enough n m (first_record (x ∷ xs)).1 (omega arith) (omega arith))

-- the first record, and those of the bytes behind it
one_on : (xs : List ℕ) → 0 < length xs → records_from (length xs) xs ≡ (first_record xs).0 ∷ records_from (length (first_record xs).1) (first_record xs).1
one_on [] h = absurd (omega arith)
one_on (x ∷ xs) h =
    let less = shorter (x ∷ xs) (omega arith) in
    ap (λ (rs : List (Result Call Fault)). (first_record (x ∷ xs)).0 ∷ rs) (enough (length xs) (length (first_record (x ∷ xs)).1) (first_record (x ∷ xs)).1 (omega arith) (omega arith))

-- one record more stands behind those that are there
pub next : (done : List (Result plain.Call Fault)) (x : Result plain.Call Fault) (all : List (Result Call Fault)) (xs rest : List ℕ) → 0 < length xs → (seen x, rest) ≡ first_record xs → map seen done ++ records_from (length xs) xs ≡ all → map seen (done ++ x ∷ []) ++ records_from (length rest) rest ≡ all
next done x all xs rest h is e =
    ap (λ (rs : List (Result Call Fault)). rs ++ records_from (length rest) rest) (map-append seen done (x ∷ []))
    ∙ append_assoc (map seen done) (seen x ∷ []) (records_from (length rest) rest)
    ∙ ap (λ (p : Result Call Fault × List ℕ). map seen done ++ p.0 ∷ records_from (length p.1) p.1) is
    ∙ ap (λ (rs : List (Result Call Fault)). map seen done ++ rs) (sym (one_on xs h))
    ∙ e
