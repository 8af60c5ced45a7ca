-- The front of a list: the first n, where there may be fewer.
use Rattle.std.proofs.Common.{◌≡◌, ℕ, zero, suc, List, [], ◌∷◌, length, take, refl, ap}

module _ {X : Type 0} where
  pub take_counted : (n : ℕ) (xs : List X) → take (length (take n xs)) xs ≡ take n xs
  take_counted zero xs = refl
  take_counted (suc n) [] = refl
  take_counted (suc n) (x ∷ xs) = ap (λ (l : List X). x ∷ l) (take_counted n xs)
