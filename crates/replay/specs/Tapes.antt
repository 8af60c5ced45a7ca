-- The tape below a display that was told a list of slides.
use Rattle.std.specs.Prelude.{ℕ, List, [], ◌∷◌}
use Rattle.display.specs.Tape.{Reel, entered}
use Rattle.rules.specs.Triggers.{Effect}

-- each of them is entered behind the one before it, with the moment at which the display settles it
abbrev pub entered_all : (ℕ → ℕ) → Reel → List Effect → Reel
entered_all settle r [] = r
entered_all settle r (x ∷ xs) = entered_all settle (entered r x.number (settle x.moment) x.body) xs
