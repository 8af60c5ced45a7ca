-- What a film means, by the bytes of its tape and where its last entry begins.
use Rattle.std.specs.Prelude.{◌≡◌, ℕ, ◌+◌, ◌-◌, ◌*◌, ◌^◌, min, cond, List, ◌++◌, length, take, drop, Some, None, Option, nat_le}
use Rattle.display.specs.Meaning.{Meaning, Card, accepts}
use Rattle.display.specs.declared.cards.CardNumbers.{CardNumbers}
use Rattle.packed.specs.Bits.{whole, field, bytes_of}
use Rattle.packed.specs.Parts.{pasted}

-- An entry is a head of twelve bytes and a body. The head has the accession in 32 bits, then since in 44 and the
-- body's length in 20, most significant bit first.
module _ (tape : List ℕ) (at : ℕ) where
  abbrev pub accession_at : ℕ
  accession_at = field 32 0 32 (whole (take 4 (drop at tape)))

  abbrev pub since_at : ℕ
  since_at = field 64 0 44 (whole (take 8 (drop (at + 4) tape)))

  abbrev pub length_at : ℕ
  length_at = field 64 44 20 (whole (take 8 (drop (at + 4) tape)))

  -- the numbers of the head
  abbrev pub head_at : CardNumbers
  head_at = record { accession = accession_at; since = since_at; length = length_at }

  abbrev pub card_at : Card
  card_at = record { accession = accession_at; since = since_at; body = take length_at (drop (at + 12) tape) }

-- where the last entry ends, and the next may begin
abbrev pub end_of : List ℕ → Option ℕ → ℕ
end_of tape None = 0
end_of tape (Some at) = at + 12 + length_at tape at

abbrev pub film_card : List ℕ → Option ℕ → Option Card
film_card tape None = None
film_card tape (Some at) = Some (card_at tape at)

abbrev pub film : List ℕ → Option ℕ → Meaning
film tape last = record { frame = min (length tape - 12) 65536; lag = 0; settle = λ t. t; card = film_card tape last }

-- where an entry with a body of n bytes goes: behind the last if it fits there, else to the tape's start
abbrev pub place_for : List ℕ → Option ℕ → ℕ → ℕ
place_for tape last n = cond (nat_le (end_of tape last + 12 + n) (length tape)) (end_of tape last) 0

-- an entry's bytes
abbrev pub entry_bytes : ℕ → ℕ → List ℕ → List ℕ
entry_bytes a s b = bytes_of 4 a ++ (bytes_of 8 (s * 2 ^ 20 + length b) ++ b)

-- a tape's bytes, and where its last entry begins
abbrev pub Reel : Type 0
Reel = List ℕ × Option ℕ

-- one entry more: its bytes lie at its place and no other byte of the tape changes
abbrev pub entered : Reel → ℕ → ℕ → List ℕ → Reel
entered r a s b = (pasted r.0 (place_for r.0 r.1 (length b)) (entry_bytes a s b), Some (place_for r.0 r.1 (length b)))

-- an accepted show of a film
abbrev pub Recorded : List ℕ → Option ℕ → ℕ → ℕ → List ℕ → List ℕ → Option ℕ → Type 0
Recorded tape last a s b tape' last' =
    (tape' ≡ (entered (tape, last) a s b).0) × (last' ≡ (entered (tape, last) a s b).1)

-- the tape at the bottom of a display of this meaning, after a show: an accepted one is entered with the moment at which it
-- really shows, a refused one leaves the tape
abbrev pub recorded : Meaning → Reel → ℕ → ℕ → List ℕ → Reel
recorded m r a t b = cond (accepts m a t b) (entered r a (m.settle t) b) r
