-- Slots that are cleared one after the other, where they pass a test.
use Rattle.std.proofs.Common.{◌≡◌, ℕ, ◌+◌, ◌<◌, Bool, cond, List, ◌++◌, map, length, get_or, take, drop, set, sym, ◌∙◌}
use Rattle.std.proofs.lemmas.List.Edits.{map_over_more}
use Rattle.std.proofs.lemmas.List.{get_or-map}
use Rattle.slots.specs.Searches.{vacated}
use Rattle.slots.specs.Slides.{Slot, free}
use Rattle.slots.proofs.Changed.{write_map}

module _ (test : Slot → Bool) (xs : List Slot) where
  -- the slots before i are done
  abbrev pub upto : ℕ → List Slot
  upto i = vacated test (take i xs) ++ drop i xs

  -- the next one, among records that are seen through a function
  pub upto_more : {A : Type 0} (see : A → Slot) (rs : List A) (i : ℕ) (d y : A) → i < length rs → i < length xs → map see rs ≡ upto i → see y ≡ cond (test (see (get_or rs i d))) free (see (get_or rs i d)) → map see (set rs i y) ≡ upto (i + 1)
  upto_more see rs i d y there within so e =
      let x = see (get_or rs i d) in
      write_map see rs i y _ e ∙ map_over_more (λ (z : Slot). cond (test z) free z) xs (map see rs) i x within so (sym (get_or-map see rs i d x there))
