-- A display that was told to show a list of slides, each once and in order, and nothing besides.
use Rattle.std.specs.Prelude.{◌≡◌, ℕ, List, [], ◌∷◌}
use Rattle.rules.specs.Triggers.{Effect}

-- by what one call of show makes of a display: one call for each of the list, and for an empty list the very same display
module _ {D : Type 0} (told : D → ℕ → ℕ → List ℕ → D → Type 0) where
  abbrev pub Reached : D → List Effect → D → Type 0
  Reached d [] e = e ≡ d
  Reached d (x ∷ xs) e = (c : D) × told d x.number x.moment x.body c × Reached c xs e
