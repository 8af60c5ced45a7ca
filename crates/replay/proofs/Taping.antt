-- What the history of triggers makes of the tape below a display.
use Rattle.std.proofs.Common.{◌≡◌, ℕ, true, List, [], ◌∷◌, Ok, Err, Result, IfOk, refl, ap, ◌∙◌}
use Rattle.std.specs.List.{AllByRecursion}
use Rattle.std.proofs.lemmas.Bool.{cond-true}
use Rattle.display.specs.Meaning.{Meaning, Steady, accepts}
use Rattle.display.specs.Tape.{Reel, entered, recorded}
use Rattle.display.specs.Taping.{recorded_steady}
use Rattle.replay.specs.Ends.{Replays, display_in}
use Rattle.replay.specs.Tapes.{entered_all}
use Rattle.replay.specs.declared.replays.Interrupted.{Interrupted}
use Rattle.replay.specs.declared.replays.Replayed.{Replayed}
use Rattle.rules.specs.Calls.{Call}
use Rattle.rules.specs.Laws.{account}
use Rattle.rules.specs.Reached.{Reached}
use Rattle.rules.specs.Triggers.{Effect}

module _ {D : Type 0} (mean : D → Meaning) (told : D → ℕ → ℕ → List ℕ → D → Type 0) (steady : (d e : D) (a t : ℕ) (b : List ℕ) → told d a t b e → Steady (mean d) (mean e)) (reel : D → Reel) (records : (d e : D) (a t : ℕ) (b : List ℕ) → told d a t b e → reel e ≡ recorded (mean d) (reel d) a t b) where
  -- accepted shows of a display that is as m in all that no show changes
  pub taped : (m : Meaning) (es : List Effect) (d e : D) → Steady m (mean d) → AllByRecursion (λ x. accepts m x.number x.moment x.body ≡ true) es → Reached told d es e → reel e ≡ entered_all m.settle (reel d) es
  taped m [] d e s a h = ap reel h
  taped m (x ∷ xs) d e s a h =
      let c = h.0 in
      let next = steady d c x.number x.moment x.body h.1 in
      let one : reel c ≡ entered (reel d) x.number (m.settle x.moment) x.body =
      records d c x.number x.moment x.body h.1
      ∙ recorded_steady m (mean d) (reel d) x.number x.moment x.body s
      ∙ cond-true (accepts m x.number x.moment x.body) _ (reel d) a.0 in
      taped m xs c e (next.0 ∙ s.0, next.1 ∙ s.1, next.2 ∙ s.2) a.1 h.2 ∙ ap (λ r. entered_all m.settle r xs) one

  -- and a replay over one, of which no show is refused
  pub replayed_tape : (d : D) (size : ℕ) (memory : List ℕ) (cs : List Call) (m : List ℕ) (r : Result (Replayed D) (Interrupted D)) → IfOk r (λ x. Replays mean told d size memory cs x m) → IfOk r (λ x. reel (display_in x.receiver) ≡ entered_all (mean d).settle (reel d) (account (mean d) size memory cs).history)
  replayed_tape d size memory cs m (Ok x) h =
      taped (mean d) (account (mean d) size memory cs).history d (display_in x.receiver) (refl, refl, refl) (h.laws.shows_accepted cs) h.shown
  replayed_tape d size memory cs m (Err e) h = tt
