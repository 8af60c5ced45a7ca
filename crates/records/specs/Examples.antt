-- Worked examples of records, of the calls that they make and of their lines.
use Rattle.std.specs.Prelude.{◌≡◌, ℕ, true, List, [], ◌∷◌, Some, None, Ok, Err, Result}
use Rattle.refusal.specs.declared.Fault.{Fault}
use Rattle.rules.specs.Calls.{Call, header, segment, time, card, counted, shows}
use Rattle.records.specs.Lines.{lines_from}
use Rattle.records.specs.Records.{malformed, records_of}
use Rattle.records.specs.Sent.{calls_from}
use Rattle.records.specs.Texts.{line_text}

abbrev Reads : List ℕ → List (Result Call Fault) → Type 0
Reads xs rs = records_of xs ≡ rs

pub record ExamplesStand : Type 0 where
  pub nothing : Reads [] []
  -- a time field of any length
  pub times : Reads (0x20 ∷ 0x00 ∷ 0x20 ∷ 0x02 ∷ 0xBA ∷ 0x98 ∷ []) (Ok (time []) ∷ Ok (time (0xBA ∷ 0x98 ∷ [])) ∷ [])
  -- a header under TransportId 7, and one whose payload ends before that
  pub headers : Reads (0x40 ∷ 0x03 ∷ 0x00 ∷ 0x07 ∷ 0x41 ∷ 0x40 ∷ 0x01 ∷ 0x00 ∷ []) (Ok (header 7 (0x41 ∷ [])) ∷ Err malformed ∷ [])
  -- the last segment of three bytes, number 0
  pub last_segment : Reads (0x60 ∷ 0x07 ∷ 0x00 ∷ 0x07 ∷ 0x80 ∷ 0x00 ∷ 0x61 ∷ 0x62 ∷ 0x63 ∷ []) (Ok (segment 7 0 true (0x61 ∷ 0x62 ∷ 0x63 ∷ [])) ∷ [])
  -- an unknown kind and a segment that is too short are stepped over
  pub stepped_over : Reads (0x00 ∷ 0x01 ∷ 0xFF ∷ 0x60 ∷ 0x03 ∷ 0x00 ∷ 0x07 ∷ 0x80 ∷ 0x20 ∷ 0x00 ∷ []) (Err malformed ∷ Err malformed ∷ Ok (time []) ∷ [])
  -- a record that runs past the end is the last, and so is a single byte
  pub past_the_end : Reads (0x20 ∷ 0x03 ∷ 0x20 ∷ 0x00 ∷ []) (Err malformed ∷ [])
  pub left_over : Reads (0x20 ∷ 0x00 ∷ 0x20 ∷ []) (Ok (time []) ∷ Err malformed ∷ [])
  -- a malformed record asks for the card alone
  pub sent : calls_from (Ok (time []) ∷ Err malformed ∷ []) ≡ time [] ∷ card ∷ card ∷ []
  pub told : lines_from 1 (Ok (time []) ∷ Err malformed ∷ []) (counted 1 ∷ shows (Some (record { accession = 5; since = 9; length = 3 })) ∷ shows None ∷ []) ≡ record { number = 1; refusal = 0; accession = 5; since = 9 } ∷ record { number = 2; refusal = 19; accession = 0; since = 0 } ∷ []
  -- as text: 4 0 1 5184000001016, and 2 19 0 0 behind a malformed record without a card
  pub printed : line_text (record { number = 4; refusal = 0; accession = 1; since = 5184000001016 }) ≡ 0x34 ∷ 0x20 ∷ 0x30 ∷ 0x20 ∷ 0x31 ∷ 0x20 ∷ 0x35 ∷ 0x31 ∷ 0x38 ∷ 0x34 ∷ 0x30 ∷ 0x30 ∷ 0x30 ∷ 0x30 ∷ 0x30 ∷ 0x31 ∷ 0x30 ∷ 0x31 ∷ 0x36 ∷ []
  pub printed_refused : line_text (record { number = 2; refusal = 19; accession = 0; since = 0 }) ≡ 0x32 ∷ 0x20 ∷ 0x31 ∷ 0x39 ∷ 0x20 ∷ 0x30 ∷ 0x20 ∷ 0x30 ∷ []
