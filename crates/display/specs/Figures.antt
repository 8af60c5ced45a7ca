-- Worked examples of a tape, byte by byte.
use Rattle.std.specs.Prelude.{◌≡◌, ℕ, List, [], ◌∷◌, ◌++◌, length, Some, None}
use Rattle.display.specs.Layering.{edge_over, lag_over}
use Rattle.display.specs.Tape.{Reel, film, recorded}

-- abc and xyz
abbrev pub abc : List ℕ
abc = 97 ∷ 98 ∷ 99 ∷ []

abbrev pub xyz : List ℕ
xyz = 120 ∷ 121 ∷ 122 ∷ []

-- abc under number 1, first since 5,184,000,001,016 and then since 1,024; and xyz under number 2, since 5,184,000,002,048
abbrev pub first_entry : List ℕ
first_entry = 0 ∷ 0 ∷ 0 ∷ 1 ∷ 75 ∷ 111 ∷ 231 ∷ 168 ∷ 63 ∷ 128 ∷ 0 ∷ 3 ∷ 97 ∷ 98 ∷ 99 ∷ []

abbrev pub late_entry : List ℕ
late_entry = 0 ∷ 0 ∷ 0 ∷ 1 ∷ 0 ∷ 0 ∷ 0 ∷ 0 ∷ 64 ∷ 0 ∷ 0 ∷ 3 ∷ 97 ∷ 98 ∷ 99 ∷ []

abbrev pub second_entry : List ℕ
second_entry = 0 ∷ 0 ∷ 0 ∷ 2 ∷ 75 ∷ 111 ∷ 231 ∷ 168 ∷ 128 ∷ 0 ∷ 0 ∷ 3 ∷ 120 ∷ 121 ∷ 122 ∷ []

-- a film's tape after a show
abbrev pub after : Reel → ℕ → ℕ → List ℕ → Reel
after r a t b = recorded (film r.0 r.1) r a t b

-- on a tape of 30 bytes, whatever they were, the two entries lie one behind the other
abbrev pub TwoEntries : Type 0
TwoEntries =
    (xs : List ℕ) → length xs ≡ 30 → after (after (xs, None) 1 5184000001016 abc) 2 5184000002048 xyz ≡ (first_entry ++ second_entry, Some 15)

-- at the bottom of a lag of 10 over an edge of 16, the entry has the moment at which the display shows 1,000
abbrev pub PutOffEntry : Type 0
PutOffEntry =
    (xs : List ℕ) → length xs ≡ 15 → recorded (lag_over 10 (edge_over 16 (film xs None))) (xs, None) 1 1000 abc ≡ (late_entry, Some 0)
