-- Settings and readings by the moment that the time field names: each is one pass.
use Rattle.std.proofs.Common.{◌≡◌, ℕ, ◌-◌, ◌≤◌, Bool, true, false, cond, nat_le, List, [], map, length, Ok, Err, Result, refl, sym, ap, ap₂, subst}
use Rattle.moment.specs.Field.{time_of}
use Rattle.moment.specs.declared.times.Time.{Time}
use Rattle.moment.specs.declared.times.Time.TheVariants.{Now, At}
use Rattle.receiver.specs.Settings.{moment_said, moment_in, not_below, reading_in, shots, passing, setting_pass, setting_shots, Prepares, set_by, set_shots, read_by, read_shots, SetsTo, ReadsTo}
use Rattle.refusal.specs.declared.Fault.{Fault}
use Rattle.refusal.specs.declared.causes.Cause.TheVariants.{BodyMemoryMisfit, ReadingBelowClock}
use Rattle.rules.proofs.Passes.{reading}
use Rattle.rules.proofs.Settings.{due_seen, setting_passes}
use Rattle.rules.proofs.Shots.{reading_shots}
use Rattle.rules.proofs.Sounds.{sound_ready}
use Rattle.rules.specs.Calls.{Reply, counted, refused}
use Rattle.rules.specs.Clocks.{prepared, walk, walked, set_to, on_setting, on_reading, setting_step, reading_step}
use Rattle.rules.specs.Effects.{due_effects, walk_effects, on_setting_effects, on_reading_effects, setting_effects, reading_effects}
use Rattle.rules.specs.Headers.{receiver_fault}
use Rattle.rules.specs.Passes.{shot}
use Rattle.rules.specs.Soundness.{Sound}
use Rattle.rules.specs.Triggers.{Effect}
use Rattle.rules.specs.Worlds.{World, fits_memory}
use Rattle.std.proofs.lemmas.Bool.{leb-true}

-- a setting to t is one pass, in a world that is prepared for it
module _ (t : ℕ) (w : World) where
  set_pass : set_to t w ≡ setting_pass t w
  unfolding setting_pass
  set_pass =
      sym (ap₂ (λ (n : ℕ) (x : World). (counted n, x)) (ap length (due_seen t w)) (setting_passes t w))

  set_due : due_effects t (prepared t w) ≡ setting_shots t w
  unfolding setting_shots
  set_due = sym (ap (map (shot (prepared t w))) (due_seen t w))

  pub prepares : (u : World) → u ≡ prepared t w → Prepares t w u
  unfolding setting_pass setting_shots
  prepares u e = (sym (ap (passing t) e), sym (ap (shots t) e))

-- an answer with its world and its shows is what comes of a setting, or of a reading
module _ (w : World) (r : Result ℕ Fault) where
  abbrev Sets : Reply × World → List Effect → Type 0
  Sets a es = (a ≡ set_by r w) × (es ≡ set_shots r w)

  abbrev Reads : Reply × World → List Effect → Type 0
  Reads a es = (a ≡ read_by r w) × (es ≡ read_shots r w)

module _ (w : World) where
  sets : (b : Bool) (q : Result Time Fault) → Sets w (cond b (moment_said q) (Err (receiver_fault BodyMemoryMisfit))) (cond b (on_setting q w) (refused (receiver_fault BodyMemoryMisfit), w)) (cond b (on_setting_effects q w) [])
  sets true (Err e) = (refl, refl)
  sets true (Ok Now) = (refl, refl)
  sets true (Ok (At t)) = (set_pass t w, set_due t w)
  sets false q = (refl, refl)

  reads_at : Sound w.state → (t : ℕ) (b : Bool) → nat_le w.state.clock t ≡ b → Reads w (cond b (Ok t) (Err (receiver_fault ReadingBelowClock))) (cond b (counted (walked (t - w.state.clock) w), walk (t - w.state.clock) w) (refused (receiver_fault ReadingBelowClock), w)) (cond b (walk_effects (t - w.state.clock) w) [])
  reads_at h t true v =
      let le : w.state.clock ≤ t = leb-true w.state.clock t v in
      let r = reading t w (sound_ready w.state h) le in
      (ap₂ (λ (n : ℕ) (x : World). (counted n, x)) r.1 r.0, reading_shots t w (sound_ready w.state h) le)
  reads_at h t false v = (refl, refl)

  reads : Sound w.state → (b : Bool) (q : Result Time Fault) → Reads w (not_below w.state.clock (cond b (moment_said q) (Err (receiver_fault BodyMemoryMisfit)))) (cond b (on_reading q w) (refused (receiver_fault BodyMemoryMisfit), w)) (cond b (on_reading_effects q w) [])
  reads h true (Err e) = (refl, refl)
  reads h true (Ok Now) = (refl, refl)
  reads h true (Ok (At t)) = reads_at h t (nat_le w.state.clock t) refl
  reads h false q = (refl, refl)

module _ (w : World) (xs : List ℕ) where
  pub setting_says : (r : Result ℕ Fault) → r ≡ moment_in w.state.room w.memory xs → SetsTo r w xs
  unfolding setting_step setting_effects
  setting_says r e = subst (λ (r : Result ℕ Fault). SetsTo r w xs) (sym e) (sets w (fits_memory w) (time_of xs))

  pub reading_says : Sound w.state → (r : Result ℕ Fault) → r ≡ reading_in w.state.clock w.state.room w.memory xs → ReadsTo r w xs
  unfolding reading_step reading_effects
  reading_says h r e = subst (λ (r : Result ℕ Fault). ReadsTo r w xs) (sym e) (reads w h (fits_memory w) (time_of xs))
