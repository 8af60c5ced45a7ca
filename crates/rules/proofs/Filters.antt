-- What a filter keeps of a shelf's laws, and where a slot is found again.
use Rattle.std.proofs.Common.{◌≡◌, ℕ, zero, suc, Bool, true, false, cond, ◌&&◌, ◌||◌, eqb, ◌⊎◌, List, [], ◌∷◌, map, get_or, set, None, filter, Ordering, sym, refl, ap, ◌∙◌, ap₂, inl, inr}
use Rattle.rules.specs.Soundness.{same_place, PlacesApart}
use Rattle.rules.specs.Worlds.{any}
use Rattle.shelf.proofs.Found.{none_passes, none_found}
use Rattle.shelf.specs.Laws.{Apart}
use Rattle.shelf.specs.Places.{carries, found, shelved, above}
use Rattle.shelf.specs.declared.entries.Entry.{Entry}
use Rattle.slots.specs.Slides.{Slot, free, numbered}
use Rattle.std.proofs.lemmas.Bool.{cond_both, both_ways, cases_Bool, or_parts, or_right, or_left, eqb-true, eq-eqb, ne_eqb, eqb-false}
use Rattle.std.specs.List.{AllByRecursion}

-- what holds of all holds of those that are kept, which have passed the test
pub all_kept : {X : Type 0} (p : X → Bool) (P Q : X → Type 0) → ((x : X) → P x → p x ≡ true → Q x) → (xs : List X) → AllByRecursion P xs → AllByRecursion Q (filter p xs)
all_kept p P Q i [] h = tt
all_kept p P Q i (x ∷ xs) h =
    cond_both (p x) (x ∷ filter p xs) (filter p xs) (AllByRecursion Q) (λ e. (i x h.0 e, all_kept p P Q i xs h.1)) (λ e. all_kept p P Q i xs h.1)

-- those that are kept pass the test
pub kept_pass : {X : Type 0} (p : X → Bool) (Q : X → Type 0) → ((x : X) → p x ≡ true → Q x) → (xs : List X) → AllByRecursion Q (filter p xs)
kept_pass p Q i [] = tt
kept_pass p Q i (x ∷ xs) =
    cond_both (p x) (x ∷ filter p xs) (filter p xs) (AllByRecursion Q) (λ e. (i x e, kept_pass p Q i xs)) (λ e. kept_pass p Q i xs)

module _ {K : Type 0} where
  found_kept : (p : Entry K → Bool) (n : ℕ) (xs : List (Entry K)) → found n xs ≡ None → found n (filter p xs) ≡ None
  found_kept p n xs e =
      none_found (carries n) (filter p xs) (all_kept p (λ x. carries n x ≡ false) (λ x. carries n x ≡ false) (λ x h t. h) xs (none_passes (carries n) xs e))

  pub apart_kept : (p : Entry K → Bool) (xs : List (Entry K)) → Apart xs → Apart (filter p xs)
  apart_kept p [] h = tt
  apart_kept p (x ∷ xs) h =
      cond_both (p x) (x ∷ filter p xs) (filter p xs) Apart (λ e. (found_kept p x.load xs h.0, apart_kept p xs h.1)) (λ e. apart_kept p xs h.1)

  -- nothing carries a load that was filtered out
  pub none_carries : (p : Entry K → Bool) (n : ℕ) → ((x : Entry K) → p x ≡ true → carries n x ≡ false) → (xs : List (Entry K)) → found n (filter p xs) ≡ None
  none_carries p n i xs = none_found (carries n) (filter p xs) (kept_pass p (λ x. carries n x ≡ false) i xs)

pub places_apart_kept : (p : Entry (ℕ × ℕ) → Bool) (xs : List (Entry (ℕ × ℕ))) → PlacesApart xs → PlacesApart (filter p xs)
places_apart_kept p [] h = tt
places_apart_kept p (x ∷ xs) h =
    cond_both (p x) (x ∷ filter p xs) (filter p xs) PlacesApart
    (λ e. (all_kept p (λ d. same_place x.key d.key ≡ false) (λ d. same_place x.key d.key ≡ false) (λ d h t. h) xs h.0, places_apart_kept p xs h.1))
    (λ e. places_apart_kept p xs h.1)

eqb_turned : (a b : ℕ) → eqb a b ≡ eqb b a
eqb_turned a b = go (cases_Bool (eqb a b)) (cases_Bool (eqb b a))
  where
    go : (eqb a b ≡ true) ⊎ (eqb a b ≡ false) → (eqb b a ≡ true) ⊎ (eqb b a ≡ false) → eqb a b ≡ eqb b a
    go (inl e) y = e ∙ sym (eq-eqb b a (sym (eqb-true a b e)))
    go (inr e) y = e ∙ sym (ne_eqb b a (λ q. eqb-false a b e (sym q)))

pub same_place_turned : (a b : ℕ × ℕ) → same_place a b ≡ same_place b a
same_place_turned a b = ap₂ (λ x y. x && y) (eqb_turned a.0 b.0) (eqb_turned a.1 b.1)

-- an entry of a place that nobody has
pub places_apart_shelved : (cmp : ℕ × ℕ → ℕ × ℕ → Ordering) (e : Entry (ℕ × ℕ)) (xs : List (Entry (ℕ × ℕ))) → AllByRecursion (λ d. same_place e.key d.key ≡ false) xs → PlacesApart xs → PlacesApart (shelved cmp e xs)
places_apart_shelved cmp e [] a h = (tt, tt)
places_apart_shelved cmp e (x ∷ xs) a h =
    cond_both (above cmp e.key x) (e ∷ x ∷ xs) (x ∷ shelved cmp e xs) PlacesApart
    (λ t. (a, h))
    (λ t. (put xs h.0, places_apart_shelved cmp e xs a.1 h.1))
  where
    other : same_place x.key e.key ≡ false
    other = same_place_turned x.key e.key ∙ a.0

    put : (ys : List (Entry (ℕ × ℕ))) → AllByRecursion (λ d. same_place x.key d.key ≡ false) ys → AllByRecursion (λ d. same_place x.key d.key ≡ false) (shelved cmp e ys)
    put [] b = (other, tt)
    put (y ∷ ys) b =
        cond_both (above cmp e.key y) (e ∷ y ∷ ys) (y ∷ shelved cmp e ys) (AllByRecursion (λ d. same_place x.key d.key ≡ false)) (λ t. (other, b)) (λ t. (b.0, put ys b.1))

-- some slot still passes after the slots that fail another test are all that is left
pub any_freed : (test : Slot → Bool) (n : ℕ) (xs : List Slot) → any (numbered n) xs ≡ true → any (λ x. test x && numbered n x) xs ≡ false → any (numbered n) (map (λ x. cond (test x) free x) xs) ≡ true
any_freed test n [] h i = h
any_freed test n (x ∷ xs) h i = go (numbered n x) refl (test x) refl (or_parts (test x && numbered n x) _ i) (λ a b. any_freed test n xs a b)
  where
    go : (a : Bool) → numbered n x ≡ a → (b : Bool) → test x ≡ b → ((test x && numbered n x) ≡ false) × (any (λ y. test y && numbered n y) xs ≡ false) → (any (numbered n) xs ≡ true → any (λ y. test y && numbered n y) xs ≡ false → any (numbered n) (map (λ y. cond (test y) free y) xs) ≡ true) → (numbered n (cond (test x) free x) || any (numbered n) (map (λ y. cond (test y) free y) xs)) ≡ true
    go true e true d p ih = absurd (both_ways (test x && numbered n x) p.0 (rw (d, e) refl))
    go true e false d p ih = or_left _ _ (ap (λ (b : Bool). numbered n (cond b free x)) d ∙ e)
    go false e b d p ih = or_right _ _ (ih (ap (λ (a : Bool). a || any (numbered n) xs) (sym e) ∙ h) p.1)

-- some slot still passes after one that fails was set
pub any_set : (test : Slot → Bool) (xs : List Slot) (k : ℕ) (x : Slot) → test (get_or xs k free) ≡ false → any test xs ≡ true → any test (set xs k x) ≡ true
any_set test [] k x e h = h
any_set test (y ∷ xs) zero x e h = or_right (test x) (any test xs) (ap (λ (b : Bool). b || any test xs) (sym e) ∙ h)
any_set test (y ∷ xs) (suc k) x e h = go (test y) refl h (any_set test xs k x e)
  where
    go : (b : Bool) → test y ≡ b → (b || any test xs) ≡ true → (any test xs ≡ true → any test (set xs k x) ≡ true) → (test y || any test (set xs k x)) ≡ true
    go true d q ih = or_left _ _ d
    go false d q ih = or_right _ _ (ih q)

-- and as many pass where the new one passes as the old one did
pub any_same : (test : Slot → Bool) (xs : List Slot) (k : ℕ) (x : Slot) → test x ≡ test (get_or xs k free) → any test (set xs k x) ≡ any test xs
any_same test [] k x e = refl
any_same test (y ∷ ys) zero x e = ap (λ (b : Bool). b || any test ys) e
any_same test (y ∷ ys) (suc k) x e = ap (λ (b : Bool). test y || b) (any_same test ys k x e)

pub any_at : (test : Slot → Bool) → test free ≡ false → (xs : List Slot) (k : ℕ) → test (get_or xs k free) ≡ true → any test xs ≡ true
any_at test z [] k h = absurd (both_ways (test free) z h)
any_at test z (x ∷ xs) zero h = or_left (test x) _ h
any_at test z (x ∷ xs) (suc k) h = or_right (test x) _ (any_at test z xs k h)
