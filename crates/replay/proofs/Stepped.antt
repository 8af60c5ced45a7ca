-- What each kind of call comes to as a step of the rules.
use Rattle.std.proofs.Common.{◌≡◌, ℕ, ◌<◌, eqb, List, Some, None, Ok, Err, Option, Result, refl, sym, ap, ◌∙◌, arith}
use Rattle.calls.specs.Plain.{reply_of}
use Rattle.calls.specs.declared.Reply.TheVariants.{Counted}
use Rattle.display.specs.Meaning.{Card, Byte}
use Rattle.receiver.specs.Views.{told}
use Rattle.refusal.specs.declared.Fault.{Fault}
use Rattle.rules.specs.Calls.{Reply, time}
use Rattle.rules.specs.Clocks.{setting_step, reading_step}
use Rattle.rules.specs.Effects.{setting_effects, reading_effects, effects}
use Rattle.rules.specs.Questions.{card_byte_of}
use Rattle.rules.specs.Runs.{step}
use Rattle.rules.specs.Worlds.{World}
use Rattle.std.proofs.lemmas.Bool.{cond-true, cond-false, eq-eqb, ne_eqb}
use Rattle.std.proofs.lemmas.Option.{slice_get-get_or, slice_get_past}

counted_is : (r : Result ℕ Fault) → reply_of (Counted r) ≡ told r
counted_is (Ok n) = refl
counted_is (Err e) = refl

-- the byte that a display answers is the one of its card's body
pub byte_is : (c : Option Card) (i : ℕ) (r : Option ℕ) → Byte c i r → r ≡ card_byte_of c i
byte_is None i None h = refl
byte_is None i (Some b) h = absurd h
byte_is (Some c) i None h = sym (slice_get_past c.body i h)
byte_is (Some c) i (Some b) h = ap Some h.1 ∙ sym (slice_get-get_or c.body i _ h.0)

module _ (w : World) where
  -- a time field is a reading of a clock that runs, and a setting of one that does not
  pub step_reading : (xs : List ℕ) (o : Reply × World) → 0 < w.state.clock → o ≡ reading_step w xs → o ≡ step w (time xs)
  unfolding step
  step_reading xs o h e =
      e ∙ sym (cond-false (eqb w.state.clock 0) (setting_step w xs) (reading_step w xs) (ne_eqb w.state.clock 0 (λ q. omega arith)))

  pub step_setting : (xs : List ℕ) (o : Reply × World) → w.state.clock ≡ 0 → o ≡ setting_step w xs → o ≡ step w (time xs)
  unfolding step
  step_setting xs o h e =
      e ∙ sym (cond-true (eqb w.state.clock 0) (setting_step w xs) (reading_step w xs) (eq-eqb w.state.clock 0 h))

  pub read : (xs : List ℕ) (r : Result ℕ Fault) (v : World) → 0 < w.state.clock → (told r, v) ≡ reading_step w xs → (reply_of (Counted r), v) ≡ step w (time xs)
  read xs r v h e = ap (λ (y : Reply). (y, v)) (counted_is r) ∙ step_reading xs (told r, v) h e

  -- and so is what takes effect with it
  pub reading_is : (xs : List ℕ) → 0 < w.state.clock → reading_effects w xs ≡ effects w (time xs)
  unfolding effects
  reading_is xs h =
      sym (cond-false (eqb w.state.clock 0) (setting_effects w xs) (reading_effects w xs) (ne_eqb w.state.clock 0 (λ q. omega arith)))

  pub setting_is : (xs : List ℕ) → w.state.clock ≡ 0 → setting_effects w xs ≡ effects w (time xs)
  unfolding effects
  setting_is xs h = sym (cond-true (eqb w.state.clock 0) (setting_effects w xs) (reading_effects w xs) (eq-eqb w.state.clock 0 h))
