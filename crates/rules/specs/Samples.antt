-- The sample: the clock is set, a header and its one segment come, and a reading shows the slide at its trigger. And two such
-- slides, with one reading behind both of their triggers.
use Rattle.std.specs.Prelude.{◌≡◌, true, List, [], ◌∷◌, ◌++◌, replicate, Some}
use Rattle.display.specs.Meaning.{blank}
use Rattle.rules.specs.Calls.{Call, header, segment, time, answered, counted}
use Rattle.rules.specs.Laws.{answers, account}
use Rattle.rules.specs.Runs.{opened, after, replies}
use Rattle.rules.specs.Worlds.{World}
use Rattle.rules.specs.declared.answers.Answer.TheVariants.{Taken, Filed}

-- slots of 4,096 bytes over a panel of 4,096 bytes
abbrev pub sample_opening : World
sample_opening = opened (blank 4096) 4096 (replicate 49152 0)

-- a header of an image "A" of three bytes with a trigger, and the body "abc" in one segment
abbrev pub sample_object : List Call
sample_object =
    header 7 (0x00 ∷ 0x00 ∷ 0x00 ∷ 0x30 ∷ 0x09 ∷ 0x84 ∷ 0x01 ∷ 0xCC ∷ 0x02 ∷ 0x00 ∷ 0x41 ∷ 0xC5 ∷ 0x06 ∷ 0xBA ∷ 0x98 ∷ 0x08 ∷ 0x00 ∷ 0x04 ∷ 0x10 ∷ []) ∷ segment 7 0 true (0x61 ∷ 0x62 ∷ 0x63 ∷ []) ∷ []

-- between a setting to the start of day 60,000 and a reading of the trigger's moment
abbrev pub sample_setting : Call
sample_setting = time (0xBA ∷ 0x98 ∷ 0x08 ∷ 0x00 ∷ 0x00 ∷ 0x00 ∷ [])

abbrev pub sample_reading : Call
sample_reading = time (0xBA ∷ 0x98 ∷ 0x08 ∷ 0x00 ∷ 0x04 ∷ 0x10 ∷ [])

abbrev pub before_reading : List Call
before_reading = sample_setting ∷ sample_object

-- up to the reading nothing shows; the reading shows one slide, and the card is that slide at its own moment
pub record SampleShows : Type 0 where
  pub quiet : replies sample_opening before_reading ≡ counted 0 ∷ answered (Taken 1) ∷ answered (Filed 1) ∷ []
  pub one_show : replies (after sample_opening before_reading) (sample_reading ∷ []) ≡ counted 1 ∷ []
  pub card : (after (after sample_opening before_reading) (sample_reading ∷ [])).display.card ≡ Some (record { accession = 1; since = 5184000001016; body = 0x61 ∷ 0x62 ∷ 0x63 ∷ [] })

-- another slide, "B" with the body "xyz", and a trigger one millisecond behind that of the first
abbrev pub other_object : List Call
other_object =
    header 8 (0x00 ∷ 0x00 ∷ 0x00 ∷ 0x30 ∷ 0x09 ∷ 0x84 ∷ 0x01 ∷ 0xCC ∷ 0x02 ∷ 0x00 ∷ 0x42 ∷ 0xC5 ∷ 0x06 ∷ 0xBA ∷ 0x98 ∷ 0x08 ∷ 0x00 ∷ 0x04 ∷ 0x11 ∷ []) ∷ segment 8 0 true (0x78 ∷ 0x79 ∷ 0x7A ∷ []) ∷ []

-- a second later both triggers have passed
abbrev pub late_reading : Call
late_reading = time (0xBA ∷ 0x98 ∷ 0x08 ∷ 0x00 ∷ 0x08 ∷ 0x30 ∷ [])

abbrev pub two_slides : List Call
two_slides = (sample_setting ∷ sample_object ++ other_object) ++ late_reading ∷ []

-- over a display with a frame of 18 bytes, and slots of 3: the one reading shows both, and in the history each has its own moment
pub record BothShow : Type 0 where
  pub two_shows : answers (blank 18) 3 (replicate 36 0) two_slides ≡ counted 0 ∷ answered (Taken 1) ∷ answered (Filed 1) ∷ answered (Taken 2) ∷ answered (Filed 2) ∷ counted 2 ∷ []
  pub two_entries : (account (blank 18) 3 (replicate 36 0) two_slides).history ≡ record { number = 1; moment = 5184000001016; body = 0x61 ∷ 0x62 ∷ 0x63 ∷ [] } ∷ record { number = 2; moment = 5184000001017; body = 0x78 ∷ 0x79 ∷ 0x7A ∷ [] } ∷ []
