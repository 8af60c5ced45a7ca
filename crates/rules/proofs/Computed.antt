-- The sample, computed.
use Rattle.std.proofs.Common.{◌≡◌, ℕ, ◌-◌, List, [], ◌∷◌, length, replicate, filter, refl, ap, ◌∙◌, arith}
use Rattle.display.specs.Meaning.{blank}
use Rattle.rules.specs.Calls.{Reply, counted}
use Rattle.header.specs.Headers.{header_of}
use Rattle.rules.specs.Assembly.{segment_step}
use Rattle.rules.specs.Clocks.{walk, walked, setting_step}
use Rattle.rules.specs.Headers.{header_step}
use Rattle.rules.specs.Passes.{passed_to, seen}
use Rattle.rules.specs.Runs.{after, step}
use Rattle.rules.specs.Samples.{SampleShows, sample_opening, before_reading, sample_reading}
use Rattle.rules.specs.Soundness.{Sound}
use Rattle.rules.specs.Worlds.{World}
use Rattle.rules.proofs.Kept.{sound_open, sound_run}
use Rattle.rules.proofs.Passes.{reading}
use Rattle.rules.proofs.Sounds.{sound_ready}
use Rattle.rules.proofs.Readings.{step_time}

abbrev w : World
w = after sample_opening before_reading

abbrev field : List ℕ
field = 0xBA ∷ 0x98 ∷ 0x08 ∷ 0x00 ∷ 0x04 ∷ 0x10 ∷ []

abbrev moment : ℕ
moment = 5184000001016

sound : Sound w.state
sound = sound_run before_reading sample_opening (sound_open (blank 4096) 4096 (replicate 49152 0))

clock : w.state.clock ≡ 5184000000000
unfolding step setting_step header_step header_of segment_step
clock = refl

passes : (walk (moment - w.state.clock) w ≡ passed_to moment w) × (walked (moment - w.state.clock) w ≡ length (filter (seen w.state moment) w.state.waiting))
passes = reading moment w (sound_ready w.state sound) (omega (arith, clock))

stepped : step w sample_reading ≡ (counted (length (filter (seen w.state moment) w.state.waiting)), passed_to moment w)
unfolding step setting_step header_step header_of segment_step
stepped =
    step_time w field moment refl refl (omega (arith, clock)) (omega (arith, clock)) ∙ (λ i. (counted (passes.1 i), passes.0 i))

pub sample : SampleShows
unfolding step setting_step header_step header_of segment_step
sample = record {
  quiet = refl;
  one_show = ap (λ (x : Reply × World). x.0 ∷ []) stepped;
  card = ap (λ (x : Reply × World). x.1.display.card) stepped;
}
