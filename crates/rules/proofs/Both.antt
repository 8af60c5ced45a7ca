-- Two slides and one reading behind both of their triggers, computed.
use Rattle.std.proofs.Common.{◌≡◌, ℕ, ◌-◌, ◌<◌, ◌≤◌, true, List, [], ◌∷◌, ◌++◌, length, replicate, None, Ok, Result, filter, sym, refl, ap, ◌∙◌, arith}
use Rattle.std.proofs.lemmas.Bool.{le-leb, ne_eqb}
use Rattle.display.specs.Lifted.{film_keeps}
use Rattle.display.specs.Meaning.{blank, Keeps}
use Rattle.header.specs.Headers.{header_of}
use Rattle.moment.specs.Field.{time_of}
use Rattle.moment.specs.declared.times.Time.{Time}
use Rattle.moment.specs.declared.times.Time.TheVariants.{At}
use Rattle.refusal.specs.declared.Fault.{Fault}
use Rattle.rules.proofs.Kept.{sound_open, sound_run}
use Rattle.rules.proofs.Passes.{reading}
use Rattle.rules.proofs.Readings.{step_time}
use Rattle.rules.proofs.Shots.{shots, reading_shots}
use Rattle.rules.proofs.Sounds.{sound_ready}
use Rattle.rules.proofs.Splits.{replies_append, effects_append}
use Rattle.rules.proofs.Stand.{laws}
use Rattle.rules.specs.Assembly.{segment_step}
use Rattle.rules.specs.Calls.{Call, Reply, time, counted}
use Rattle.rules.specs.Clocks.{walk, walked, setting_step}
use Rattle.rules.specs.Effects.{effects, all_effects, walk_effects, setting_effects, reading_effects, header_effects, segment_effects, on_reading_effects}
use Rattle.rules.specs.Headers.{header_step}
use Rattle.rules.specs.Passes.{passed_to, seen}
use Rattle.rules.specs.Runs.{opened, after, replies, step}
use Rattle.rules.specs.Samples.{BothShow, sample_setting, sample_object, other_object, late_reading, two_slides}
use Rattle.rules.specs.Soundness.{Sound}
use Rattle.rules.specs.Triggers.{Effect}
use Rattle.rules.specs.Worlds.{World, fits_memory}

-- what takes effect in a reading that is not below the clock
effects_time : (w : World) (f : List ℕ) (t : ℕ) → fits_memory w ≡ true → time_of f ≡ Ok (At t) → 0 < w.state.clock → w.state.clock ≤ t → effects w (time f) ≡ walk_effects (t - w.state.clock) w
unfolding effects reading_effects
effects_time w f t fits e h k =
    rw (ne_eqb w.state.clock 0 (omega arith), fits) (ap (λ (r : Result Time Fault). on_reading_effects r w) e ∙ rw (le-leb w.state.clock t k))

abbrev opening : World
opening = opened (blank 18) 3 (replicate 36 0)

abbrev before : List Call
before = sample_setting ∷ sample_object ++ other_object

abbrev w : World
w = after opening before

abbrev field : List ℕ
field = 0xBA ∷ 0x98 ∷ 0x08 ∷ 0x00 ∷ 0x08 ∷ 0x30 ∷ []

abbrev moment : ℕ
moment = 5184000002048

sound : Sound w.state
sound = sound_run before opening (sound_open (blank 18) 3 (replicate 36 0))

clock : w.state.clock ≡ 5184000000000
unfolding step setting_step header_step header_of segment_step
clock = refl

passes : (walk (moment - w.state.clock) w ≡ passed_to moment w) × (walked (moment - w.state.clock) w ≡ length (filter (seen w.state moment) w.state.waiting))
passes = reading moment w (sound_ready w.state sound) (omega (arith, clock))

fits : fits_memory w ≡ true
unfolding step setting_step header_step header_of segment_step
fits = refl

stepped : step w late_reading ≡ (counted (length (filter (seen w.state moment) w.state.waiting)), passed_to moment w)
stepped =
    step_time w field moment fits refl (omega (arith, clock)) (omega (arith, clock)) ∙ (λ i. (counted (passes.1 i), passes.0 i))

shown : effects w late_reading ≡ shots moment w
shown =
    effects_time w field moment fits refl (omega (arith, clock)) (omega (arith, clock)) ∙ reading_shots moment w (sound_ready w.state sound) (omega (arith, clock))

keeps : Keeps (blank 18)
keeps = film_keeps (replicate 30 0) None

quiet : all_effects opening before ≡ []
unfolding step setting_step header_step header_of segment_step effects setting_effects header_effects segment_effects
quiet = refl

pub both : BothShow
unfolding step setting_step header_step header_of segment_step
both = record {
  two_shows = replies_append before (late_reading ∷ []) opening ∙ ap (λ (x : Reply × World). replies opening before ++ x.0 ∷ []) stepped;
  two_entries =
      sym ((laws (blank 18) keeps 3 (replicate 36 0)).history_is_effects two_slides)
      ∙ effects_append before (late_reading ∷ []) opening
      ∙ ap (λ (es : List Effect). es ++ all_effects w (late_reading ∷ [])) quiet
      ∙ ap (λ (es : List Effect). es ++ []) shown;
}
