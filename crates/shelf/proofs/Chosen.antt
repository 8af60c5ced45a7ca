-- What of a shelf passes a test, also after an entry came.
use Rattle.std.proofs.Common.{◌≡◌, Bool, true, false, cond, List, [], ◌∷◌, filter, Ordering, sym, refl, ap, ◌∙◌}
use Rattle.std.proofs.ByRecursion.{all_kept_by}
use Rattle.std.proofs.lemmas.Bool.{cond_both, cond-true, cond-false}
use Rattle.std.specs.Cmp.{IsTotalOrder}
use Rattle.shelf.specs.declared.entries.Entry.{Entry}
use Rattle.shelf.specs.Places.{above, shelved, Ascending}
use Rattle.shelf.specs.Laws.{AllAbove}
use Rattle.shelf.specs.Searches.{without_that}
use Rattle.shelf.proofs.Firsts.{all_without}
use Rattle.shelf.proofs.Ordered.{all_above}

-- ---- any comparison

module _ {K : Type 0} (cmp : K → K → Ordering) where
  -- what passes a test stays in order
  pub ascending_kept : (p : Entry K → Bool) (xs : List (Entry K)) → Ascending cmp xs → Ascending cmp (filter p xs)
  ascending_kept p [] up = tt
  ascending_kept p (x ∷ xs) up =
      cond_both (p x) (x ∷ filter p xs) (filter p xs) (Ascending cmp)
      (λ _. (all_kept_by p (λ y. above cmp y.key x ≡ false) xs up.0, ascending_kept p xs up.1))
      (λ _. ascending_kept p xs up.1)

  -- in front of all that are above it an entry comes first
  pub shelved_first :
      (e : Entry K) (xs : List (Entry K)) → AllAbove cmp e.key xs → shelved cmp e xs ≡ e ∷ xs
  shelved_first e [] h = refl
  shelved_first e (x ∷ xs) h =
      cond-true (above cmp e.key x) (e ∷ x ∷ xs) (x ∷ shelved cmp e xs) h.0

  -- behind one that is not above it an entry comes later
  pub shelved_later :
      (e x : Entry K) (xs : List (Entry K)) → above cmp e.key x ≡ false →
      shelved cmp e (x ∷ xs) ≡ x ∷ shelved cmp e xs
  shelved_later e x xs t =
      cond-false (above cmp e.key x) (e ∷ x ∷ xs) (x ∷ shelved cmp e xs) t

-- ---- a total order

module _ {K : Type 0} {R : K → K → Ordering} (o : IsTotalOrder R) where
  -- whether an entry comes before or after a choice makes no difference
  pub kept_shelved :
      (p : Entry K → Bool) (e : Entry K) → p e ≡ true → (xs : List (Entry K)) →
      Ascending R xs → filter p (shelved R e xs) ≡ shelved R e (filter p xs)
  kept_shelved p e yes_e [] up = cond-true (p e) (e ∷ []) [] yes_e
  kept_shelved p e yes_e (x ∷ xs) up =
      cond_both (above R e.key x) (e ∷ x ∷ xs) (x ∷ shelved R e xs)
      (λ l. filter p l ≡ shelved R e (filter p (x ∷ xs)))
      (λ t.
      let behind = all_above o e.key x xs t up in
      let high = all_kept_by p (λ y. above R e.key y ≡ true) (x ∷ xs) behind in
      cond-true (p e) (e ∷ filter p (x ∷ xs)) (filter p (x ∷ xs)) yes_e
      ∙ sym (shelved_first R e (filter p (x ∷ xs)) high))
      (λ t.
      ap (λ (l : List (Entry K)). cond (p x) (x ∷ l) l) (kept_shelved p e yes_e xs up.1)
      ∙ elim (p x) as (λ b. cond b (x ∷ shelved R e (filter p xs)) (shelved R e (filter p xs))
      ≡ shelved R e (cond b (x ∷ filter p xs) (filter p xs))) [
        | true ↦ sym (shelved_later R e x (filter p xs) t)
        | false ↦ refl
      ])

  -- nor whether it comes before or after another goes
  pub without_shelved_other :
      (test : Entry K → Bool) (e : Entry K) → test e ≡ false → (xs : List (Entry K)) →
      Ascending R xs → without_that test (shelved R e xs) ≡ shelved R e (without_that test xs)
  without_shelved_other test e no_e [] up = cond-false (test e) [] (e ∷ []) no_e
  without_shelved_other test e no_e (x ∷ xs) up =
      cond_both (above R e.key x) (e ∷ x ∷ xs) (x ∷ shelved R e xs)
      (λ l. without_that test l ≡ shelved R e (without_that test (x ∷ xs)))
      (λ t.
      let behind = all_above o e.key x xs t up in
      let high = all_without test (λ y. above R e.key y ≡ true) (x ∷ xs) behind in
      cond-false (test e) (x ∷ xs) (e ∷ without_that test (x ∷ xs)) no_e
      ∙ sym (shelved_first R e (without_that test (x ∷ xs)) high))
      (λ t.
      ap (λ (l : List (Entry K)). cond (test x) (shelved R e xs) (x ∷ l))
      (without_shelved_other test e no_e xs up.1)
      ∙ elim (test x) as (λ b. cond b (shelved R e xs) (x ∷ shelved R e (without_that test xs))
      ≡ shelved R e (cond b xs (x ∷ without_that test xs))) [
        | true ↦ refl
        | false ↦ sym (shelved_later R e x (without_that test xs) t)
      ])
