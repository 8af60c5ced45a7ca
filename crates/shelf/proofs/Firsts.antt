-- The first of a list that passes a test, and the list without it.
use Rattle.std.proofs.Common.{◌≡◌, Bool, true, false, List, [], ◌∷◌, is_some, Some, None, filter, Option, sym, refl, ap, ◌∙◌}
use Rattle.std.proofs.lemmas.Bool.{cond_both, cond-true, cond-false, true≢false}
use Rattle.std.specs.List.{find, position_or_len, remove, AllByRecursion}
use Rattle.shelf.specs.Searches.{without_that, FirstAt, First, Lost}
use Rattle.shelf.proofs.Steps.{place_both}

module _ {X : Type 0} (test : X → Bool) where
  -- the first behind one that does not pass, and one that passes in front of all
  abbrev pub at_later : (x : X) {xs : List X} {y : X} → test x ≡ false → FirstAt test xs y → FirstAt test (x ∷ xs) y
  at_later x e h = record {
    front = x ∷ h.front;
    back = h.back;
    whole = ap (λ (l : List X). x ∷ l) h.whole;
    passes = h.passes;
    none_before = (e, h.none_before);
  }

  abbrev pub at_once : (x : X) (xs : List X) → test x ≡ true → FirstAt test (x ∷ xs) x
  at_once x xs e = record { front = []; back = xs; whole = refl; passes = e; none_before = tt }

  further : (x : X) (xs : List X) (r : Option X) → test x ≡ false → First test xs r → First test (x ∷ xs) r
  further x xs None e h = (e, h)
  further x xs (Some y) e h = at_later x e h

  -- what the search answers is the first
  pub first_is : (xs : List X) → First test xs (find test xs)
  first_is [] = tt
  first_is (x ∷ xs) =
      cond_both (test x) (Some x) (find test xs) (First test (x ∷ xs)) (at_once x xs) (λ e. further x xs (find test xs) e (first_is xs))

  -- what is left is the list without the first
  pub lost : (xs : List X) → is_some (find test xs) ≡ true → Lost test xs (without_that test xs)
  lost [] h = absurd (true≢false (sym h))
  lost (x ∷ xs) h =
      cond_both (test x) xs (x ∷ without_that test xs) (Lost test (x ∷ xs))
      (λ e. record { item = x; at = at_once x xs e; left = refl })
      (λ e.
      let l = lost xs (sym (ap is_some (cond-false (test x) (Some x) (find test xs) e)) ∙ h) in
      record { item = l.item; at = at_later x e l.at; left = ap (λ (ys : List X). x ∷ ys) l.left })

  -- without the first, nothing is gained
  pub all_without : (P : X → Type 0) (xs : List X) → AllByRecursion P xs → AllByRecursion P (without_that test xs)
  all_without P [] h = tt
  all_without P (x ∷ xs) h =
      cond_both (test x) xs (x ∷ without_that test xs) (AllByRecursion P) (λ _. h.1) (λ _. (h.0, all_without P xs h.1))

  -- the list without the first, by its place
  pub removed_first : (xs : List X) → remove xs (position_or_len test xs) ≡ without_that test xs
  removed_first [] = refl
  removed_first (x ∷ xs) =
      place_both test x xs (λ n. remove (x ∷ xs) n ≡ without_that test (x ∷ xs))
      (λ e. sym (cond-true (test x) xs (x ∷ without_that test xs) e))
      (λ e. ap (λ (l : List X). x ∷ l) (removed_first xs) ∙ sym (cond-false (test x) xs (x ∷ without_that test xs) e))

-- where none passes a test
module _ {X : Type 0} (p : X → Bool) where
  pub kept_none : (xs : List X) → AllByRecursion (λ x. p x ≡ false) xs → filter p xs ≡ []
  kept_none [] h = refl
  kept_none (x ∷ xs) h = cond-false (p x) (x ∷ filter p xs) (filter p xs) h.0 ∙ kept_none xs h.1
