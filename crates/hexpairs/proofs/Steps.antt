-- The steps of reading hexadecimal text from its front.
use Rattle.std.proofs.Common.{◌≡◌, ℕ, ◌-◌, ◌<◌, true, false, List, [], ◌∷◌, ◌++◌, length, get_or, take, drop, Some, None, Option, sym, refl, ap, ◌∙◌, arith}
use Rattle.std.proofs.lemmas.List.{take_rest, append_assoc}
use Rattle.std.proofs.lemmas.Bool.{cond-true, cond-false}
use Rattle.hexpairs.specs.Text.{blank, byte_of, before, bytes_of}

-- bytes read already, in front of what comes of the rest
abbrev pub onto : List ℕ → Option (List ℕ) → Option (List ℕ)
onto xs None = None
onto xs (Some ys) = Some (xs ++ ys)

-- what follows the first byte of a slice
abbrev pub behind : List ℕ → List ℕ
behind xs = take (length xs - 1) (drop 1 xs)

-- a blank is passed over
pub past_blank : (xs : List ℕ) → 0 < length xs → blank (get_or xs 0 0) ≡ true → bytes_of xs ≡ bytes_of (behind xs)
past_blank [] h e = absurd (omega arith)
past_blank (a ∷ []) h e = cond-true (blank a) _ _ e
past_blank (a ∷ b ∷ xs) h e = cond-true (blank a) _ _ e ∙ sym (ap bytes_of (take_rest (a ∷ b ∷ xs) 1))

-- two digits give a byte
pub past_pair : (xs : List ℕ) → 0 < length xs → 0 < length (behind xs) → blank (get_or xs 0 0) ≡ false → bytes_of xs ≡ before (byte_of (get_or xs 0 0) (get_or (behind xs) 0 0)) (bytes_of (behind (behind xs)))
past_pair [] h k e = absurd (omega arith)
past_pair (a ∷ []) h k e = absurd (omega (arith, ap length (take_rest (a ∷ []) 1)))
past_pair (a ∷ b ∷ xs) h k e =
    let r : behind (a ∷ b ∷ xs) ≡ b ∷ xs = take_rest (a ∷ b ∷ xs) 1 in
    cond-false (blank a) _ _ e ∙ sym (ap (λ (ys : List ℕ). before (byte_of a (get_or ys 0 0)) (bytes_of (behind ys))) r ∙ ap (λ (ys : List ℕ). before (byte_of a b) (bytes_of ys)) (take_rest (b ∷ xs) 1))

-- the same behind bytes read already, o being the byte that the two digits give
pub read_pair : (read xs : List ℕ) (o : Option ℕ) → 0 < length xs → 0 < length (behind xs) → false ≡ blank (get_or xs 0 0) → o ≡ byte_of (get_or xs 0 0) (get_or (behind xs) 0 0) → onto read (before o (bytes_of (behind (behind xs)))) ≡ onto read (bytes_of xs)
read_pair read xs o h k e is =
    ap (λ (p : Option ℕ). onto read (before p (bytes_of (behind (behind xs))))) is ∙ sym (ap (onto read) (past_pair xs h k (sym e)))

-- one byte more was read
pub onto_more : (was read : List ℕ) (b : ℕ) (o : Option (List ℕ)) → read ≡ was ++ b ∷ [] → onto read o ≡ onto was (before (Some b) o)
onto_more was read b None e = refl
onto_more was read b (Some ys) e = ap (λ (xs : List ℕ). Some (xs ++ ys)) e ∙ ap Some (append_assoc was (b ∷ []) ys)
