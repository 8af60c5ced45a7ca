-- The text of a list of cases, one case after the other.
use Rattle.std.proofs.Common.{◌≡◌, ℕ, zero, suc, ◌<◌, ◌≤◌, Bool, true, false, cond, leb, List, [], ◌∷◌, ◌++◌, length, take, drop, Some, None, Option, sym, ap, ◌∙◌, arith, length-drop}
use Rattle.packed.specs.Bits.{whole}
use Rattle.std.proofs.lemmas.List.{append_assoc, append-nil}
use Rattle.tracecases.specs.Cases.{Case, parted, name_in, trace_in, with_trace, with_name, first_case}
use Rattle.tracecases.specs.Told.{case_told, and_on, told_from, told}

-- what is left behind a part, or 0
abbrev left_of : Option (List ℕ × List ℕ) → ℕ
left_of None = 0
left_of (Some t) = length t.1

abbrev left_behind : Option (Case × List ℕ) → ℕ
left_behind None = 0
left_behind (Some t) = length t.1

part_left : (n : ℕ) (xs : List ℕ) → left_of (parted n xs) ≤ length xs
part_left n xs = by (leb n (length xs))
  where
    by : (b : Bool) → left_of (cond b (Some (take n xs, drop n xs)) None) ≤ length xs
    by true = simp length-drop (omega arith)
    by false = omega arith

trace_left : (xs : List ℕ) → left_of (trace_in xs) ≤ length xs
trace_left [] = omega arith
trace_left (a ∷ []) = omega arith
trace_left (a ∷ b ∷ xs) = omega (arith, part_left (whole (a ∷ b ∷ [])) xs)

with_trace_left : (name : List ℕ) (o : Option (List ℕ × List ℕ)) → left_behind (with_trace name o) ≡ left_of o
with_trace_left name None = λ i. 0
with_trace_left name (Some t) = λ i. length t.1

with_name_left : (o : Option (List ℕ × List ℕ)) → left_behind (with_name o) ≤ left_of o
with_name_left None = omega arith
with_name_left (Some t) = omega (arith, with_trace_left t.0 (trace_in t.1), trace_left t.1)

name_left : (xs : List ℕ) → 0 < length xs → left_of (name_in xs) < length xs
name_left [] h = absurd (omega arith)
name_left (x ∷ xs) h = omega (arith, part_left x xs)

abbrev how_many : Option (Case × List ℕ) → ℕ
how_many None = 0
how_many (Some t) = 1

-- there is a first case only where there are bytes
some_bytes : (xs : List ℕ) (t : Case × List ℕ) → Some t ≡ first_case xs → 0 < length xs
some_bytes [] t is = absurd (omega (arith, ap how_many is))
some_bytes (x ∷ xs) t is = omega arith

-- what stands behind a case is shorter than what it begins
pub shorter : (xs : List ℕ) (t : Case × List ℕ) → Some t ≡ first_case xs → length t.1 < length xs
shorter xs t is =
    omega (arith, ap left_behind is, with_name_left (name_in xs), name_left xs (some_bytes xs t is))

nothing : (n : ℕ) (xs : List ℕ) → None ≡ first_case xs → told_from n xs ≡ []
nothing zero xs is = λ i. []
nothing (suc n) xs is = ap (λ (o : Option (Case × List ℕ)). and_on o (λ left. told_from n left)) (sym is)

-- steps beyond the length change nothing
enough : (n m : ℕ) (xs : List ℕ) → length xs ≤ n → length xs ≤ m → told_from n xs ≡ told_from m xs
enough n m [] h k = nothing n [] (λ i. None) ∙ sym (nothing m [] (λ i. None))
enough zero m (x ∷ xs) h k = absurd (omega arith)
enough (suc n) zero (x ∷ xs) h k = absurd (omega arith)
enough (suc n) (suc m) (x ∷ xs) h k =
    by (first_case (x ∷ xs)) (λ i. first_case (x ∷ xs)) (λ ys a b. enough n m ys a b)
  where
    by : (o : Option (Case × List ℕ)) → o ≡ first_case (x ∷ xs) → ((ys : List ℕ) → length ys ≤ n → length ys ≤ m → told_from n ys ≡ told_from m ys) → and_on o (λ left. told_from n left) ≡ and_on o (λ left. told_from m left)
    by None is same = λ i. []
    by (Some t) is same =
        let less = shorter (x ∷ xs) t is in
        ap (λ (ys : List ℕ). case_told t.0 ++ ys) (same t.1 (omega arith) (omega arith))

-- the text of the first case, and that of the bytes behind it
one_on : (xs : List ℕ) (t : Case × List ℕ) → Some t ≡ first_case xs → told xs ≡ case_told t.0 ++ told t.1
one_on [] t is = absurd (omega (arith, shorter [] t is))
one_on (x ∷ xs) t is =
    let less = shorter (x ∷ xs) t is in
    ap (λ (o : Option (Case × List ℕ)). and_on o (λ left. told_from (length xs) left)) (sym is)
    ∙ ap (λ (ys : List ℕ). case_told t.0 ++ ys) (enough (length xs) (length t.1) t.1 (omega arith) (omega arith))

-- the text of one case more stands behind what is there
pub next : (done more xs all : List ℕ) (t : Case × List ℕ) → Some t ≡ first_case xs → more ≡ done ++ case_told t.0 → done ++ told xs ≡ all → more ++ told t.1 ≡ all
next done more xs all t is put e =
    ap (λ (ys : List ℕ). ys ++ told t.1) put
    ∙ append_assoc done (case_told t.0) (told t.1)
    ∙ ap (λ (ys : List ℕ). done ++ ys) (sym (one_on xs t is))
    ∙ e

-- no case is left
pub ends : (done all xs : List ℕ) → None ≡ first_case xs → done ++ told xs ≡ all → done ≡ all
ends done all xs is e =
    sym (append-nil done) ∙ ap (λ (ys : List ℕ). done ++ ys) (sym (nothing (length xs) xs is)) ∙ e
