-- The places without the slide in a slot.
use Rattle.std.proofs.Common.{◌≡◌, ℕ, true, false, not, List, [], ◌∷◌, filter, sym, refl, ap, ◌∙◌}
use Rattle.rules.proofs.Passes.{kept_same}
use Rattle.shelf.specs.declared.entries.Entry.{Entry}
use Rattle.slots.specs.Slides.{Slot, numbered}

every_kept : {X : Type 0} (xs : List X) → xs ≡ filter (λ _. true) xs
every_kept [] = refl
every_kept (x ∷ xs) = ap (λ ys. x ∷ ys) (every_kept xs)

module _ {K : Type 0} (ps : List (Entry K)) (z : Slot) where
  pub without_none : ((n : ℕ) → numbered n z ≡ false) → ps ≡ filter (λ e. not (numbered e.load z)) ps
  without_none i = every_kept ps ∙ kept_same (λ d. true) (λ d. not (numbered d.load z)) (λ d. sym (ap not (i d.load))) ps
