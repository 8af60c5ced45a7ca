-- A worked tape.
use Rattle.std.specs.Prelude.{ℕ, List, [], ◌∷◌}

-- xyz under number 2, since 5,184,000,001,017
abbrev pub second_entry : List ℕ
second_entry = 0 ∷ 0 ∷ 0 ∷ 2 ∷ 75 ∷ 111 ∷ 231 ∷ 168 ∷ 63 ∷ 144 ∷ 0 ∷ 3 ∷ 120 ∷ 121 ∷ 122 ∷ []
