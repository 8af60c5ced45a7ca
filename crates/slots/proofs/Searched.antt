-- Searches among slots, step by step, and what they find.
use Rattle.std.proofs.Common.{◌≡◌, ℕ, zero, suc, ◌+◌, Bool, cond, List, [], ◌∷◌, refl, subst, map, get_or, Some, Option, MatchOption, Bor, ap, ◌∙◌, add-one, arith}
use Rattle.std.proofs.lemmas.Iterator.{YieldsList}
use Rattle.std.proofs.lemmas.Iterator.Adapters.{position_from-zero}
use Rattle.std.specs.Bool.{⊤}
use Rattle.std.specs.Fn.{Mut, CalledAt}
use Rattle.std.specs.Iterator.{AlwaysYields}
use Rattle.std.specs.Iterator.Adapters.{take_source, take_count, take_steps, successors_next, successors_callee, successors_steps}
use Rattle.std.specs.List.{find, position, position_from}
use Rattle.std.specs.Option.{unwrap_or}
use Rattle.slots.specs.Searches.{first_from, first_slot, free_from, next}
use Rattle.slots.specs.Seen.{index_of}
use Rattle.slots.specs.Slides.{Slot, free, is_free}
use Rattle.slots.specs.declared.indices.SlotIndex.{SlotIndex}

-- the library's search of slots that are seen through a function
found_from : {A : Type 0} (see : A → Slot) (test : Slot → Bool) (k : ℕ) (xs : List A) → position_from (λ x. test (see x)) k xs ≡ first_from test k (map see xs)
found_from see test k [] = refl
found_from see test k (x ∷ xs) =
    ap (cond (test (see x)) (Some k)) (found_from see test (k + 1) xs ∙ ap (λ (i : ℕ). first_from test i (map see xs)) (add-one k))

pub position_found : {A : Type 0} (see : A → Slot) (test : Slot → Bool) (xs : List A) → position (λ x. test (see x)) xs ≡ first_slot test (map see xs)
position_found see test xs = position_from-zero (λ x. test (see x)) xs ∙ found_from see test 0 xs

-- the n slots from slot k on, going round
abbrev pub round : ℕ → ℕ → List ℕ
round zero k = []
round (suc n) k = k ∷ round n (next k)

pub round_found : (xs : List Slot) (n k : ℕ) → find (λ j. is_free (get_or xs j free)) (round n k) ≡ free_from xs n k
round_found xs zero k = refl
round_found xs (suc n) k = ap (cond (is_free (get_or xs k free)) (Some k)) (round_found xs n (next k))

-- the library's steps from an index to the next, cut off after n
module _ {F : Type 0} (g : Mut F (Bor SlotIndex × Unit {0}) (Option SlotIndex)) (f : F) (goes : (x : SlotIndex) (o : Option SlotIndex) (q : F) → CalledAt g f x o q → (q ≡ f) × (index_of o ≡ Some (next x.index))) where
  turns : (n k : ℕ) (s : _) → take_count s ≡ n → successors_callee (take_source s) ≡ f → index_of (successors_next (take_source s)) ≡ Some k → AlwaysYields (take_steps (successors_steps g)) (λ x. x.index) s (round n k)
  turns zero k s c a e = λ x j p. omega (arith, p.1)
  turns (suc n) k s c a e = (
    (λ j p. subst (λ (o : Option ℕ). MatchOption o ⊤ (λ _. ⊥)) (ap index_of (p (omega arith)).0 ∙ e) tt),
    λ x j p.
        let same = ap (λ (o : Option ℕ). unwrap_or o 0) (ap index_of p.0.0 ∙ e) in
        let then = goes x _ _ (subst (λ h. CalledAt g h x (successors_next (take_source j)) (successors_callee (take_source j))) a p.0.1) in
        (same, turns n (next k) j (omega (arith, p.1)) then.0 (then.1 ∙ ap (λ i. Some (next i)) same)),
  )

  pub YieldsList-round : (n k : ℕ) (s : _) → take_count s ≡ n → successors_callee (take_source s) ≡ f → index_of (successors_next (take_source s)) ≡ Some k → YieldsList (take_steps (successors_steps g)) (λ x. x.index) s (round n k)
  YieldsList-round n k s c a e = record { runs = turns n k s c a e }
