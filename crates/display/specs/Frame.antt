-- What a panel means, by its frame memory and the numbers of its card.
use Rattle.std.specs.Prelude.{◌≡◌, ℕ, min, List, length, take, Some, None, Option}
use Rattle.display.specs.Meaning.{Meaning, Card}
use Rattle.display.specs.declared.cards.CardNumbers.{CardNumbers}
use Rattle.packed.specs.Parts.{pasted}

-- how many bytes of the memory the card uses
abbrev pub used : Option CardNumbers → ℕ
used None = 0
used (Some c) = c.length

-- the card's body stands at the front of the memory
abbrev pub panel_card : List ℕ → Option CardNumbers → Option Card
panel_card xs None = None
panel_card xs (Some c) = Some (record { accession = c.accession; since = c.since; body = take c.length xs })

abbrev pub panel : List ℕ → Option CardNumbers → Meaning
panel xs c = record { frame = min (length xs) 65536; lag = 0; settle = λ t. t; card = panel_card xs c }

-- an accepted show: the body is copied to the front of the memory, and the bytes behind it stay
abbrev pub Framed : List ℕ → ℕ → ℕ → List ℕ → List ℕ → Option CardNumbers → Type 0
Framed xs a t b ys c = (ys ≡ pasted xs 0 b) × (c ≡ Some (record { accession = a; since = t; length = length b }))
