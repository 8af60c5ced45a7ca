-- What a part of memory holds after another was written over it.
use Rattle.std.proofs.Common.{◌≡◌, ℕ, ◌+◌, ◌-◌, ◌≤◌, List, ◌++◌, length, take, drop, sym, refl, ap, ◌∙◌, arith}
use Rattle.std.proofs.lemmas.List.{length-append, length-drop, length-take-le, drop_at, take_at, take-append-le, take-take, drop-drop, append_assoc}
use Rattle.packed.specs.Parts.{pasted}

module _ (xs : List ℕ) (at : ℕ) (part : List ℕ) (fits : at + length part ≤ length xs) where
  front : length (take at xs) ≡ at
  front = length-take-le at xs (omega arith)

  pub length_pasted : length (pasted xs at part) ≡ length xs
  length_pasted = simp (length-append, length-drop) (omega (arith, front))

  pub from_pasted : drop at (pasted xs at part) ≡ part ++ drop (at + length part) xs
  from_pasted = drop_at (take at xs) (part ++ drop (at + length part) xs) at front

  -- the part itself
  pub read_pasted : take (length part) (drop at (pasted xs at part)) ≡ part
  read_pasted = ap (take (length part)) from_pasted ∙ take_at part (drop (at + length part) xs) (length part) refl

  -- before it
  pub below_pasted : (n : ℕ) → n ≤ at → take n (pasted xs at part) ≡ take n xs
  below_pasted n h =
      take-append-le n (take at xs) (part ++ drop (at + length part) xs) (omega (arith, front)) ∙ take-take n at xs h

  -- behind it
  pub above_pasted : (n : ℕ) → at + length part ≤ n → drop n (pasted xs at part) ≡ drop n xs
  above_pasted n h =
      let e : at + (length part + (n - (at + length part))) ≡ n = omega arith in
      let f : at + length part + (n - (at + length part)) ≡ n = omega arith in
      let rest = n - (at + length part) in
      ap (λ (i : ℕ). drop i (pasted xs at part)) (sym e)
      ∙ sym (drop-drop (length part + rest) at (pasted xs at part))
      ∙ ap (drop (length part + rest)) from_pasted
      ∙ sym (drop-drop rest (length part) (part ++ drop (at + length part) xs))
      ∙ ap (drop rest) (drop_at part (drop (at + length part) xs) (length part) refl)
      ∙ drop-drop rest (at + length part) xs
      ∙ ap (λ (i : ℕ). drop i xs) f

-- two parts, one behind the other
pub pasted_both : (xs : List ℕ) (at : ℕ) (a b : List ℕ) → at + length a ≤ length xs → pasted (pasted xs at a) (at + length a) b ≡ pasted xs at (a ++ b)
pasted_both xs at a b fits =
    let n = at + length a in
    let long : length (take at xs ++ a) ≡ n = length-append (take at xs) a ∙ omega (arith, length-take-le at xs (omega arith)) in
    let start : take n (pasted xs at a) ≡ take at xs ++ a = ap (take n) (sym (append_assoc (take at xs) a (drop n xs))) ∙ take_at (take at xs ++ a) (drop n xs) n long in
    let end : n + length b ≡ at + length (a ++ b) = omega (arith, length-append a b) in
    ap (λ (z : List ℕ). z ++ (b ++ drop (n + length b) (pasted xs at a))) start
    ∙ ap (λ (z : List ℕ). (take at xs ++ a) ++ (b ++ z)) (above_pasted xs at a fits (n + length b) (omega arith))
    ∙ append_assoc (take at xs) a (b ++ drop (n + length b) xs)
    ∙ ap (λ (z : List ℕ). take at xs ++ z) (sym (append_assoc a b (drop (n + length b) xs)))
    ∙ ap (λ (i : ℕ). take at xs ++ (a ++ b ++ drop i xs)) end
