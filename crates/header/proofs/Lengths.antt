-- The listed lengths and the rule.
use Rattle.std.proofs.Common.{◌≡◌, ℕ, zero, suc, ◌*◌, Bool, true, false, cond, ltb, List, [], ◌∷◌, Some, None, Option, sym, refl, ap, ◌∙◌, arith}
use Rattle.std.proofs.lemmas.Bool.{le-ltb, cond-false}
use Rattle.header.specs.Params.{mark_in, long_extent, marked_length, extent_with, extent_of, extent_by_rule}

-- a mark below 3 stands for its square, every other number for none
pub squared : (m : ℕ) → marked_length m ≡ cond (ltb m 3) (Some (m * m)) None
squared zero = refl
squared (suc zero) = refl
squared (suc (suc zero)) = refl
squared (suc (suc (suc n))) = sym (cond-false _ _ _ (le-ltb (suc (suc (suc n))) 3 (omega arith)))

begun : (b : Bool) (n : ℕ) (xs : List ℕ) → extent_with (cond b (Some n) None) xs ≡ cond b (Some (1, n)) (long_extent xs)
begun true n xs = refl
begun false n xs = refl

-- at every parameter the list gives what the rule gives
pub by_rule : (xs : List ℕ) → extent_of xs ≡ extent_by_rule xs
by_rule [] = refl
by_rule (h ∷ xs) =
    ap (λ (o : Option ℕ). extent_with o xs) (squared (mark_in h))
    ∙ begun (ltb (mark_in h) 3) (mark_in h * mark_in h) xs
