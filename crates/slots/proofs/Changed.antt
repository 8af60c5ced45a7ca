-- A list of which one element is changed, as seen through a function.
use Rattle.std.proofs.Common.{◌≡◌, ℕ, ◌<◌, List, map, length, get_or, set, sym, ap, ◌∙◌}
use Rattle.std.proofs.lemmas.List.{map-set, get_or-map, set-get_or}

module _ {A B : Type 0} (f : A → B) (xs : List A) (k : ℕ) where
  -- another in its place
  pub write_map : (y : A) (z : B) → f y ≡ z → map f (set xs k y) ≡ set (map f xs) k z
  write_map y z e = map-set f xs k y ∙ ap (λ (b : B). set (map f xs) k b) e

  -- one that looks the same
  pub same_map : (d y : A) → k < length xs → f y ≡ f (get_or xs k d) → map f (set xs k y) ≡ map f xs
  same_map d y h e =
      write_map y (get_or (map f xs) k (f d)) (e ∙ sym (get_or-map f xs k d (f d) h)) ∙ set-get_or (map f xs) k (f d)
