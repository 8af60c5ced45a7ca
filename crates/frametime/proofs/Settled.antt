-- What a display answers to a moment, as a function of the moment.
use Rattle.std.proofs.Common.{◌≡◌, ℕ, leb, Some, None, Option, sym, ap, ◌∙◌, ⊎_elim}
use Rattle.std.proofs.lemmas.Bool.{cond-true, cond-false, le-leb, leb-true, cases_Bool}
use Rattle.display.specs.Meaning.{Meaning, Settles, bound}
use Rattle.frametime.specs.Answers.{settled}

pub settled_is : (d : Meaning) (m : ℕ) (o : Option ℕ) → Settles d m o → o ≡ settled d m
settled_is d m (Some s) h = ap Some h.1 ∙ sym (cond-true (leb m (bound d)) _ _ (le-leb m (bound d) h.0))
settled_is d m None h =
    ⊎_elim
    (λ e. absurd (h (leb-true m (bound d) e)))
    (λ e. sym (cond-false (leb m (bound d)) _ _ e))
    (cases_Bool (leb m (bound d)))
