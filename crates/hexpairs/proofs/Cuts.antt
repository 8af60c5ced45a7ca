-- Where the first line of a text ends, and how the lines go on behind it.
use Rattle.std.proofs.Common.{◌≡◌, ℕ, ◌+◌, ◌-◌, ◌<◌, ◌≤◌, ◌⊎◌, ltb, cond, eqb, List, [], ◌∷◌, ◌++◌, length, get_or, take, drop, Some, None, Option, sym, refl, ap, ◌∙◌, inl, inr, arith, length-append}
use Rattle.std.proofs.ByRecursion.{All-from_get_or}
use Rattle.std.proofs.lemmas.List.{take-append-drop, take_rest, drop_more, get_or-take, length-take-le, append_assoc, append-nil}
use Rattle.std.proofs.lemmas.List.Quantifiers.{position-Some}
use Rattle.std.proofs.lemmas.List.Sums.{fails_before_first}
use Rattle.std.proofs.lemmas.Bool.{cond-false, eqb-false, eqb-true, ne_eqb}
use Rattle.std.proofs.lemmas.Bool.Decides.{nat_tests}
use Rattle.std.specs.List.{AllByRecursion, position, position_or_len}
use Rattle.hexpairs.specs.Lines.{FirstLine, lines_from, lines_of}

-- the first line feed, at i, ends the line
pub ended : (xs : List ℕ) (i : ℕ) → position (λ b. eqb b 10) xs ≡ Some i → FirstLine xs (take i xs) (take (length xs - (i + 1)) (drop (i + 1) xs))
ended xs i e =
    let (l, feed, none) = position-Some (λ b. eqb b 10) xs i 0 e in
    let n : length (take i xs) ≡ i = length-take-le i xs (omega arith) in
    let clear : AllByRecursion (λ b. b ≡ 10 → ⊥) (take i xs) = All-from_get_or (λ b. b ≡ 10 → ⊥) (take i xs) 0 (λ k h q. eqb-false (get_or xs k 0) 10 (none k (omega arith)) (sym (get_or-take i xs k 0 (omega arith)) ∙ q)) in
    let cut : drop i xs ≡ 10 ∷ take (length xs - (i + 1)) (drop (i + 1) xs) = drop_more xs i 0 l ∙ (λ j. eqb-true (get_or xs i 0) 10 feed j ∷ sym (take_rest xs (i + 1)) j) in
    (clear, inl (sym (take-append-drop i xs) ∙ ap (λ (ys : List ℕ). take i xs ++ ys) cut))

-- without one the text is the line
pub whole : (xs : List ℕ) → position (λ b. eqb b 10) xs ≡ None → FirstLine xs xs []
whole xs e =
    (All-from_get_or (λ b. b ≡ 10 → ⊥) xs 0 (λ k h. eqb-false (get_or xs k 0) 10 (fails_before_first (λ b. eqb b 10) xs k 0 (omega (arith, past (position_or_len (λ b. eqb b 10) xs) (length xs) e)))), inr (refl, refl))
  where
    past : (i n : ℕ) → ◌≡◌ {A = Option ℕ} (cond (ltb i n) (Some i) None) None → n ≤ i
    past i n q = grind (arith, nat_tests)

-- with `was` read before, a line that a line feed ends is the first
fed : (was line rest : List ℕ) → AllByRecursion (λ b. b ≡ 10 → ⊥) line → lines_from was (line ++ 10 ∷ rest) ≡ (was ++ line) ∷ lines_of rest
fed was [] rest h = ap (λ (ys : List ℕ). ys ∷ lines_of rest) (sym (append-nil was))
fed was (c ∷ cs) rest h =
    cond-false _ _ _ (ne_eqb c 10 h.0) ∙ fed (was ++ c ∷ []) cs rest h.1 ∙ ap (λ (ys : List ℕ). ys ∷ lines_of rest) (append_assoc was (c ∷ []) cs)

-- the same of a line that ends the text
last : (was line : List ℕ) → AllByRecursion (λ b. b ≡ 10 → ⊥) line → 0 < length (was ++ line) → lines_from was line ≡ (was ++ line) ∷ []
last was [] h some =
    cond-false _ _ _ (ne_eqb (length was) 0 (λ e. omega (arith, length-append {A = ℕ} was []))) ∙ ap (λ (ys : List ℕ). ys ∷ []) (sym (append-nil was))
last was (c ∷ cs) h some =
    let a = append_assoc was (c ∷ []) cs in
    cond-false _ _ _ (ne_eqb c 10 h.0) ∙ last (was ++ c ∷ []) cs h.1 (omega (arith, some, ap length a)) ∙ ap (λ (ys : List ℕ). ys ∷ []) a

-- the lines of a text are its first and those of the rest
pub next_line : (xs line rest : List ℕ) → 0 < length xs → FirstLine xs line rest → lines_of xs ≡ line ∷ lines_of rest
next_line xs line rest h f = by f.1
  where
    by : (xs ≡ line ++ 10 ∷ rest) ⊎ ((xs ≡ line) × (rest ≡ [])) → lines_of xs ≡ line ∷ lines_of rest
    by (inl e) = ap lines_of e ∙ fed [] line rest f.0
    by (inr e) =
        ap lines_of e.0 ∙ last [] line f.0 (omega (arith, ap length e.0)) ∙ ap (λ (ys : List ℕ). line ∷ lines_of ys) (sym e.1)
