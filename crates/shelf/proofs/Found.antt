-- What is found on a shelf, also after an entry came or went.
use Rattle.std.proofs.Common.{◌≡◌, ℕ, Bool, true, false, cond, List, [], ◌∷◌, map, Some, None, Option, Ordering, sym, refl, ap, ◌∙◌, ⊎_elim, arith}
use Rattle.std.proofs.lemmas.Bool.{cond_both, cond-true, cond-false, cases_Bool, eqb-true, eqb-false, ne_eqb, eq-eqb}
use Rattle.std.specs.List.{find}
use Rattle.std.specs.Ordering.{is_gt}
use Rattle.shelf.specs.declared.entries.Entry.{Entry}
use Rattle.shelf.specs.Laws.{Apart}
use Rattle.shelf.specs.Places.{above, carries, found, without, shelved}
use Rattle.shelf.specs.Searches.{without_that, NonePasses}
use Rattle.shelf.proofs.Firsts.{all_without}

-- ---- by a test

module _ {X : Type 0} (test : X → Bool) where
  none_here : (x : X) (xs : List X) → find test (x ∷ xs) ≡ None → (test x ≡ false) × (find test xs ≡ None)
  none_here x xs h =
      ⊎_elim
      (λ e. let z : ◌≡◌ {A = ℕ} 0 1 = let s = sym (cond-true (test x) (Some x) (find test xs) e) ∙ h in cc in absurd (omega arith))
      (λ e. (e, sym (cond-false (test x) (Some x) (find test xs) e) ∙ h))
      (cases_Bool (test x))

  -- where none is found none passes, and the other way round
  pub none_passes : (xs : List X) → find test xs ≡ None → NonePasses test xs
  none_passes [] h = tt
  none_passes (x ∷ xs) h = let p = none_here x xs h in (p.0, none_passes xs p.1)

  pub none_found : (xs : List X) → NonePasses test xs → find test xs ≡ None
  none_found [] h = refl
  none_found (x ∷ xs) h = cond-false (test x) (Some x) (find test xs) h.0 ∙ none_found xs h.1

  -- where none is found, nothing goes
  pub without_none : (xs : List X) → find test xs ≡ None → without_that test xs ≡ xs
  without_none [] h = refl
  without_none (x ∷ xs) h =
      let p = none_here x xs h in
      cond-false (test x) xs (x ∷ without_that test xs) p.0 ∙ ap (λ (l : List X). x ∷ l) (without_none xs p.1)

module _ {K : Type 0} (cmp : K → K → Ordering) (e : Entry K) where
  -- a test that the new entry does not pass finds what it found before
  pub first_shelved_other : (test : Entry K → Bool) → test e ≡ false → (xs : List (Entry K)) → find test (shelved cmp e xs) ≡ find test xs
  first_shelved_other test no_e [] = cond-false (test e) (Some e) None no_e
  first_shelved_other test no_e (x ∷ xs) =
      cond_both (above cmp e.key x) (e ∷ x ∷ xs) (x ∷ shelved cmp e xs) (λ l. find test l ≡ find test (x ∷ xs))
      (λ _. cond-false (test e) (Some e) (find test (x ∷ xs)) no_e)
      (λ _. ap (λ (r : Option (Entry K)). cond (test x) (Some x) r) (first_shelved_other test no_e xs))

-- entries with other loads, under the same keys, come to stand in the same places
pub map_shelved :
    {K : Type 0} (cmp : K → K → Ordering) (f : Entry K → Entry K) →
    ((x : Entry K) → (f x).key ≡ x.key) → (e : Entry K) (xs : List (Entry K)) →
    map f (shelved cmp e xs) ≡ shelved cmp (f e) (map f xs)
map_shelved cmp f same e [] = refl
map_shelved {K} cmp f same e (x ∷ xs) =
    let t : above cmp (f e).key (f x) ≡ above cmp e.key x =
    λ i. is_gt (cmp (same x i) (same e i)) in
    let rest = map_shelved cmp f same e xs in
    rw t
    (elim (above cmp e.key x) as (λ b. map f (cond b (e ∷ x ∷ xs) (x ∷ shelved cmp e xs))
    ≡ cond b (f e ∷ f x ∷ map f xs) (f x ∷ shelved cmp (f e) (map f xs))) [
      | true ↦ refl
      | false ↦ ap (λ (l : List (Entry K)). f x ∷ l) rest
    ])

-- ---- by load

module _ {K : Type 0} where
  -- a load is found as before where an entry of another load goes
  pub found_without :
      (load other : ℕ) → (load ≡ other → ⊥) → (xs : List (Entry K)) →
      found other (without load xs) ≡ found other xs
  found_without load other apart [] = refl
  found_without load other apart (x ∷ xs) =
      cond_both (carries load x) xs (x ∷ without load xs)
      (λ l. found other l ≡ found other (x ∷ xs))
      (λ e.
      let no = ne_eqb x.load other (λ f. apart (sym (eqb-true x.load load e) ∙ f)) in
      sym (cond-false (carries other x) (Some x) (found other xs) no))
      (λ e.
      ap (λ (r : Option (Entry K)). cond (carries other x) (Some x) r)
      (found_without load other apart xs))

  -- and where an entry of another load comes
  pub found_shelved_other : (cmp : K → K → Ordering) (load : ℕ) (e : Entry K) (xs : List (Entry K)) → (e.load ≡ load → ⊥) → found load (shelved cmp e xs) ≡ found load xs
  found_shelved_other cmp load e xs apart = first_shelved_other cmp e (carries load) (ne_eqb e.load load apart) xs

  -- one that comes alone is found
  pub found_shelved :
      (cmp : K → K → Ordering) (e : Entry K) (xs : List (Entry K)) → found e.load xs ≡ None →
      found e.load (shelved cmp e xs) ≡ Some e
  found_shelved cmp e [] none =
      cond-true (carries e.load e) (Some e) None (eq-eqb e.load e.load refl)
  found_shelved cmp e (x ∷ xs) none =
      let p = none_here (carries e.load) x xs none in
      cond_both (above cmp e.key x) (e ∷ x ∷ xs) (x ∷ shelved cmp e xs)
      (λ l. found e.load l ≡ Some e)
      (λ _.
      cond-true (carries e.load e) (Some e) (found e.load (x ∷ xs)) (eq-eqb e.load e.load refl))
      (λ _.
      cond-false (carries e.load x) (Some x) (found e.load (shelved cmp e xs)) p.0
      ∙ found_shelved cmp e xs p.1)

  -- taken out again, it leaves the list as it was
  pub without_back :
      (cmp : K → K → Ordering) (e : Entry K) (xs : List (Entry K)) → found e.load xs ≡ None →
      without e.load (shelved cmp e xs) ≡ xs
  without_back cmp e [] none =
      cond-true (carries e.load e) [] (e ∷ []) (eq-eqb e.load e.load refl)
  without_back cmp e (x ∷ xs) none =
      let p = none_here (carries e.load) x xs none in
      let yes = eq-eqb e.load e.load refl in
      let left = shelved cmp e xs in
      cond_both (above cmp e.key x) (e ∷ x ∷ xs) (x ∷ left) (λ l. without e.load l ≡ x ∷ xs)
      (λ _. cond-true (carries e.load e) (x ∷ xs) (e ∷ without e.load (x ∷ xs)) yes)
      (λ _.
      cond-false (carries e.load x) left (x ∷ without e.load left) p.0
      ∙ ap (λ (l : List (Entry K)). x ∷ l) (without_back cmp e xs p.1))

  -- loads stay apart
  pub apart_without :
      (test : Entry K → Bool) (xs : List (Entry K)) → Apart xs → Apart (without_that test xs)
  apart_without test [] h = tt
  apart_without test (x ∷ xs) h =
      cond_both (test x) xs (x ∷ without_that test xs) Apart
      (λ _. h.1)
      (λ _.
      let none = none_passes (carries x.load) xs h.0 in
      let far = all_without test (λ y. carries x.load y ≡ false) xs none in
      (none_found (carries x.load) (without_that test xs) far, apart_without test xs h.1))

  pub apart_shelved : (cmp : K → K → Ordering) (e : Entry K) (xs : List (Entry K)) → found e.load xs ≡ None → Apart xs → Apart (shelved cmp e xs)
  apart_shelved cmp e [] none h = (refl, tt)
  apart_shelved cmp e (x ∷ xs) none h =
      let p = none_here (carries e.load) x xs none in
      cond_both (above cmp e.key x) (e ∷ x ∷ xs) (x ∷ shelved cmp e xs) Apart
      (λ _. (none, h))
      (λ _. (found_shelved_other cmp x.load e xs (λ f. eqb-false x.load e.load p.0 (sym f)) ∙ h.0, apart_shelved cmp e xs p.1 h.1))

  -- where loads are apart, a load that went is not found
  pub found_gone :
      (load : ℕ) (xs : List (Entry K)) → Apart xs → found load (without load xs) ≡ None
  found_gone load [] h = refl
  found_gone load (x ∷ xs) h =
      cond_both (carries load x) xs (x ∷ without load xs) (λ l. found load l ≡ None)
      (λ e. ap (λ (n : ℕ). found n xs) (sym (eqb-true x.load load e)) ∙ h.0)
      (λ e.
      cond-false (carries load x) (Some x) (found load (without load xs)) e
      ∙ found_gone load xs h.1)
