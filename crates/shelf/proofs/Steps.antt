-- The place of the first of a list that passes a test.
use Rattle.std.proofs.Common.{◌≡◌, ℕ, suc, ◌+◌, ◌<◌, ◌≤◌, Bool, true, false, cond, not, List, [], ◌∷◌, length, position, is_some, Some, None, refl, ap, ◌∙◌, subst, arith}
use Rattle.std.proofs.lemmas.Grind.{common_steps}
use Rattle.std.proofs.lemmas.List.Folds.{find_at}
use Rattle.std.proofs.lemmas.Option.{slice_get_past, slice_get-get_or}
use Rattle.std.specs.List.{find, position_or_len}

module _ {X : Type 0} (test : X → Bool) where
  -- the place is 0, or one further on than in the rest
  pub place_both : (x : X) (xs : List X) (P : ℕ → Type 0) → (test x ≡ true → P 0) → (test x ≡ false → P (suc (position_or_len test xs))) → P (position_or_len test (x ∷ xs))
  place_both x xs P =
      let n = position_or_len test xs in
      let more : suc n ≡ 1 + n = omega arith in
      elim (test x) as (λ b. (b ≡ true → P 0) → (b ≡ false → P (suc n)) → P (cond (not b) (1 + n) 0)) [ true ↦ λ yes no. yes refl | false ↦ λ yes no. subst P more (no refl) ]

  -- without a place none passes, and with one the first that passes stands there
  pub no_place : (xs : List X) → position test xs ≡ None → find test xs ≡ None
  no_place xs h =
      let past : length xs ≤ position_or_len test xs = grind (arith, common_steps) in
      find_at test xs ∙ slice_get_past xs (position_or_len test xs) past

  pub some_place : (xs : List X) (i : ℕ) → position test xs ≡ Some i → (position_or_len test xs ≡ i) × (i < length xs) × (is_some (find test xs) ≡ true)
  some_place [] i h = let z : ◌≡◌ {A = ℕ} 0 1 = cc in absurd (omega arith)
  some_place (x ∷ xs) i h =
      let at : position_or_len test (x ∷ xs) ≡ i = grind (arith, common_steps) in
      let within : i < length (x ∷ xs) = grind (arith, common_steps) in
      (at, within, ap is_some (find_at test (x ∷ xs) ∙ slice_get-get_or (x ∷ xs) (position_or_len test (x ∷ xs)) x (omega arith)))
