-- What the questions answer. They change nothing.
use Rattle.std.specs.Prelude.{ℕ, cond, List, Some, None, Ok, Err, Option, Result, slice_get}
use Rattle.display.specs.Meaning.{Card, numbers}
use Rattle.display.specs.declared.cards.CardNumbers.{CardNumbers}
use Rattle.header.specs.Names.{NameRecord}
use Rattle.refusal.specs.declared.Fault.{Fault}
use Rattle.refusal.specs.declared.causes.Cause.TheVariants.{BodyMemoryMisfit, SlideNotHeld}
use Rattle.rules.specs.Headers.{receiver_fault, on_some}
use Rattle.rules.specs.Worlds.{World, slot_at, body_at, fits_memory}
use Rattle.shelf.specs.Kinds.{by_place}
use Rattle.shelf.specs.Places.{first_above}
use Rattle.shelf.specs.declared.entries.Entry.{Entry}
use Rattle.slots.specs.Searches.{first_slot}
use Rattle.slots.specs.Slides.{named, numbered, number_in}

-- the accession number of the held slide of a name
abbrev pub number_of_name : World → NameRecord → Option ℕ
number_of_name w n =
    on_some (first_slot (named n) w.state.slots) None (λ k. Some (number_in (slot_at w.state k)))

-- the first category place strictly above a given one, with its accession number
abbrev pub place_above : World → ℕ × ℕ → Option (Entry (ℕ × ℕ))
place_above w c = first_above by_place c w.state.places

-- a held slide's body, as a part of body memory
abbrev pub body_of_number : World → ℕ → Result (List ℕ) Fault
body_of_number w n =
    cond (fits_memory w) (on_some (first_slot (numbered n) w.state.slots) (Err (receiver_fault SlideNotHeld)) (λ k. Ok (body_at w k))) (Err (receiver_fault BodyMemoryMisfit))

abbrev pub card_numbers : World → Option CardNumbers
card_numbers w = numbers w.display.card

-- the card's byte at an index from 0, or none past its end or without a card
abbrev pub card_byte_of : Option Card → ℕ → Option ℕ
card_byte_of None i = None
card_byte_of (Some c) i = slice_get c.body i
