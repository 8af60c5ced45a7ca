-- A show as a function of the display before it.
use Rattle.std.proofs.Common.{◌≡◌, ℕ, true, false, List, is_ok, Ok, Err, Result, sym, ◌∙◌, arith}
use Rattle.std.proofs.lemmas.Bool.Decides.{nat_tests}
use Rattle.std.proofs.lemmas.Bool.{cond-true, cond-false}
use Rattle.refusal.specs.declared.Fault.{Fault}
use Rattle.display.specs.Meaning.{Meaning, Accepts, accepts, shown, showed, Shows}

pub accepts_true : (m : Meaning) (a t : ℕ) (b : List ℕ) → Accepts m a t b → accepts m a t b ≡ true
accepts_true m a t b h = grind (arith, nat_tests)

pub accepts_false : (m : Meaning) (a t : ℕ) (b : List ℕ) → (Accepts m a t b → ⊥) → accepts m a t b ≡ false
accepts_false m a t b h = grind (arith, nat_tests)

pub shows_showed : {U : Type 0} (m n : Meaning) (a t : ℕ) (b : List ℕ) (r : Result U Fault) → Shows m a t b r n → n ≡ showed m a t b
shows_showed m n a t b (Ok u) h = h.1 ∙ sym (cond-true (accepts m a t b) (shown m a t b) m (accepts_true m a t b h.0))
shows_showed m n a t b (Err e) h = h.2 ∙ sym (cond-false (accepts m a t b) (shown m a t b) m (accepts_false m a t b h.0))

pub shows_test : {U : Type 0} (m n : Meaning) (a t : ℕ) (b : List ℕ) (r : Result U Fault) → Shows m a t b r n → is_ok r ≡ accepts m a t b
shows_test m n a t b (Ok u) h = sym (accepts_true m a t b h.0)
shows_test m n a t b (Err e) h = sym (accepts_false m a t b h.0)
