-- Twelve entries are enough: waiting triggers and category places are for different held slides, of which there are at most twelve.
use Rattle.std.proofs.Common.{◌≡◌, ℕ, zero, suc, ◌+◌, ◌<◌, ◌≤◌, Bool, true, false, cond, not, ◌||◌, eqb, ◌⊎◌, List, [], ◌∷◌, map, length, get_or, filter, sym, refl, ap, ◌∙◌, inl, inr, arith}
use Rattle.rules.specs.Headers.{is_held}
use Rattle.rules.specs.Soundness.{Sound}
use Rattle.rules.specs.Worlds.{State, slot_at, any, undone}
use Rattle.shelf.proofs.Found.{none_passes}
use Rattle.shelf.specs.Laws.{Apart}
use Rattle.shelf.specs.Places.{carries}
use Rattle.shelf.specs.declared.entries.Entry.{Entry}
use Rattle.slots.specs.Slides.{Slot, free, arriving, held, numbered}
use Rattle.std.proofs.lemmas.List.{length-map}
use Rattle.std.proofs.lemmas.Bool.{cond_both, both_ways, cases_eq, eqb-true, eqb-false, eq-eqb, ne_eqb, not-true}
use Rattle.std.specs.List.{AllByRecursion}
use Rattle.rules.proofs.Filters.{all_kept, kept_pass, apart_kept}
use Rattle.rules.proofs.Moments.{all_mono}
use Rattle.rules.proofs.Passes.{kept_all}

-- no number stands twice
abbrev Distinct : List ℕ → Type 0
Distinct [] = Unit {0}
Distinct (x ∷ xs) = AllByRecursion (λ y. x ≡ y → ⊥) xs × Distinct xs

distinct_kept : (p : ℕ → Bool) (xs : List ℕ) → Distinct xs → Distinct (filter p xs)
distinct_kept p [] h = tt
distinct_kept p (x ∷ xs) h =
    cond_both (p x) (x ∷ filter p xs) (filter p xs) Distinct
    (λ e. (all_kept p (λ y. x ≡ y → ⊥) (λ y. x ≡ y → ⊥) (λ y i t. i) xs h.0, distinct_kept p xs h.1)) (λ e. distinct_kept p xs h.1)

one_less : (m : ℕ) (xs : List ℕ) → Distinct xs → length xs ≤ length (filter (λ x. not (eqb x m)) xs) + 1
one_less m [] h = omega arith
one_less m (x ∷ xs) h = go (cases_eq x m) (one_less m xs h.1)
  where
    go : (x ≡ m) ⊎ (x ≡ m → ⊥) → length xs ≤ length (filter (λ y. not (eqb y m)) xs) + 1 → length (x ∷ xs) ≤ length (filter (λ y. not (eqb y m)) (x ∷ xs)) + 1
    go (inl e) ih =
        let same : filter (λ y. not (eqb y m)) xs ≡ xs = kept_all (λ y. not (eqb y m)) xs (all_mono (λ y. x ≡ y → ⊥) (λ y. not (eqb y m) ≡ true) (λ y d. ap not (ne_eqb y m (λ q. d (e ∙ sym q)))) xs h.0) in
        rw (eq-eqb x m e) (omega (arith, ap length same))
    go (inr d) ih = rw (ne_eqb x m d) (omega arith)

-- distinct numbers below n are at most n
pigeons : (n : ℕ) (xs : List ℕ) → Distinct xs → AllByRecursion (λ x. x < n) xs → length xs ≤ n
pigeons zero [] d h = omega arith
pigeons zero (x ∷ xs) d h = absurd (omega (arith, h.0))
pigeons (suc n) xs d h =
    let p : ℕ → Bool = λ x. not (eqb x n) in
    let below : AllByRecursion (λ x. x < n) (filter p xs) = all_kept p (λ x. x < suc n) (λ x. x < n) (λ x i t. let q : x ≡ n → ⊥ = eqb-false x n (not-true (eqb x n) t) in omega arith) xs h in
    omega (arith, pigeons n (filter p xs) (distinct_kept p xs d) below, one_less n xs d)

-- shelves on which no two entries carry one load
module _ {K : Type 0} where
  apart_distinct : (f : ℕ → ℕ) (ws : List (Entry K)) → ((d e : Entry K) → carries d.load e ≡ false → f d.load ≡ f e.load → ⊥) → Apart ws → Distinct (map (λ (e : Entry K). f e.load) ws)
  apart_distinct f [] i h = tt
  apart_distinct f (e ∷ ws) i h = (row ws (none_passes (carries e.load) ws h.0), apart_distinct f ws i h.1)
    where
      row : (vs : List (Entry K)) → AllByRecursion (λ d. carries e.load d ≡ false) vs → AllByRecursion (λ y. f e.load ≡ y → ⊥) (map (λ (d : Entry K). f d.load) vs)
      row [] a = tt
      row (d ∷ vs) a = (i e d a.0, row vs a.1)

  all_loads : (f : ℕ → ℕ) (P : Entry K → Type 0) (Q : ℕ → Type 0) → ((e : Entry K) → P e → Q (f e.load)) → (ws : List (Entry K)) → AllByRecursion P ws → AllByRecursion Q (map (λ (e : Entry K). f e.load) ws)
  all_loads f P Q i [] h = tt
  all_loads f P Q i (e ∷ ws) h = (i e h.0, all_loads f P Q i ws h.1)

held_within : (xs : List Slot) (k : ℕ) → is_held (get_or xs k free) ≡ true → k < length xs
held_within [] k h = absurd (both_ways false refl h)
held_within (x ∷ xs) zero h = omega arith
held_within (x ∷ xs) (suc k) h = let q : k < length xs = held_within xs k h in omega arith

abbrev self : ℕ → ℕ
self n = n

module _ (s : State) (h : Sound s) where
  pub waiting_within : AllByRecursion (λ (e : Entry ℕ). e.load < 12) s.waiting
  waiting_within = all_mono (λ (e : Entry ℕ). is_held (slot_at s e.load) ≡ true) (λ e. e.load < 12) (λ e i. omega (arith, held_within s.slots e.load i, h.twelve)) s.waiting h.waiting_held

  -- so at most twelve triggers wait
  pub waiting_few : length s.waiting ≤ 12
  waiting_few =
      let of : Entry ℕ → ℕ = λ e. self e.load in
      let distinct : Distinct (map of s.waiting) =
      apart_distinct self s.waiting (λ d e i q. eqb-false e.load d.load i (sym q))
      h.one_trigger_each in
      let below : AllByRecursion (λ n. n < 12) (map of s.waiting) =
      all_loads self (λ e. e.load < 12) (λ n. n < 12) (λ e i. i) s.waiting waiting_within in
      omega (arith, pigeons 12 (map of s.waiting) distinct below, length-map s.waiting of)

  pub waiting_room : (k : ℕ) → k < 12 → length (undone k s) ≤ 11
  waiting_room k lt =
      let p : Entry ℕ → Bool = λ e. not (eqb e.load k) in
      let ws : List (Entry ℕ) = undone k s in
      let away : AllByRecursion (λ y. k ≡ y → ⊥) (map (λ (e : Entry ℕ). self e.load) ws) = all_loads self (λ e. k ≡ e.load → ⊥) (λ y. k ≡ y → ⊥) (λ e i. i) ws (kept_pass p (λ e. k ≡ e.load → ⊥) (λ e t q. eqb-false e.load k (not-true (eqb e.load k) t) (sym q)) s.waiting) in
      let below : AllByRecursion (λ n. n < 12) (map (λ (e : Entry ℕ). self e.load) ws) = all_loads self (λ e. e.load < 12) (λ n. n < 12) (λ e i. i) ws (all_kept p (λ e. e.load < 12) (λ e. e.load < 12) (λ e i t. i) s.waiting waiting_within) in
      omega (arith, pigeons 12 (k ∷ map (λ (e : Entry ℕ). self e.load) ws) (away, apart_distinct self ws (λ d e i q. eqb-false e.load d.load i (sym q)) (apart_kept p s.waiting h.one_trigger_each)) (lt, below), length-map ws (λ (e : Entry ℕ). self e.load))

-- the slot of a held slide, by its number
seat : List Slot → ℕ → ℕ
seat [] n = 0
seat (x ∷ xs) n = cond (numbered n x) 0 (suc (seat xs n))

seated : (xs : List Slot) (n : ℕ) → any (numbered n) xs ≡ true → (seat xs n < length xs) × (numbered n (get_or xs (seat xs n) free) ≡ true)
unfolding seat
seated [] n h = absurd (both_ways false refl h)
seated (x ∷ xs) n h = go (numbered n x) refl h (seated xs n)
  where
    go : (b : Bool) → numbered n x ≡ b → (b || any (numbered n) xs) ≡ true → (any (numbered n) xs ≡ true → (seat xs n < length xs) × (numbered n (get_or xs (seat xs n) free) ≡ true)) → (cond b 0 (suc (seat xs n)) < length (x ∷ xs)) × (numbered n (get_or (x ∷ xs) (cond b 0 (suc (seat xs n))) free) ≡ true)
    go true e q ih = (omega arith, e)
    go false e q ih = let r = ih q in (omega (arith, r.0), r.1)

same_number : (a b : ℕ) (x : Slot) → numbered a x ≡ true → numbered b x ≡ true → a ≡ b
same_number a b free h k = absurd (both_ways false refl h)
same_number a b (arriving o) h k = absurd (both_ways false refl h)
same_number a b (held x) h k = sym (eqb-true x.number a h) ∙ eqb-true x.number b k

seats_differ : (xs : List Slot) (a b : ℕ) → any (numbered a) xs ≡ true → any (numbered b) xs ≡ true → seat xs a ≡ seat xs b → a ≡ b
seats_differ xs a b h k e =
    same_number a b (get_or xs (seat xs a) free) (seated xs a h).1 (ap (λ j. numbered b (get_or xs j free)) e ∙ (seated xs b k).1)

module _ (s : State) (h : Sound s) where
  abbrev There : Entry (ℕ × ℕ) → Type 0
  There e = any (numbered e.load) s.slots ≡ true

  places_distinct : (ps : List (Entry (ℕ × ℕ))) → AllByRecursion There ps → Apart ps → Distinct (map (λ (e : Entry (ℕ × ℕ)). seat s.slots e.load) ps)
  places_distinct [] i a = tt
  places_distinct (e ∷ ps) i a = (row ps i.1 (none_passes (carries e.load) ps a.0), places_distinct ps i.1 a.1)
    where
      row : (qs : List (Entry (ℕ × ℕ))) → AllByRecursion There qs → AllByRecursion (λ d. carries e.load d ≡ false) qs → AllByRecursion (λ y. seat s.slots e.load ≡ y → ⊥) (map (λ (d : Entry (ℕ × ℕ)). seat s.slots d.load) qs)
      row [] j b = tt
      row (d ∷ qs) j b = (λ q. eqb-false d.load e.load b.0 (sym (seats_differ s.slots e.load d.load i.0 j.0 q)), row qs j.1 b.1)

  places_within : (ps : List (Entry (ℕ × ℕ))) → AllByRecursion There ps → AllByRecursion (λ n. n < 12) (map (λ (e : Entry (ℕ × ℕ)). seat s.slots e.load) ps)
  places_within ps i = all_loads (seat s.slots) There (λ n. n < 12) (λ e t. omega (arith, (seated s.slots e.load t).0, h.twelve)) ps i

  -- at most twelve category places are kept
  pub places_few : length s.places ≤ 12
  places_few =
      let of : Entry (ℕ × ℕ) → ℕ = λ e. seat s.slots e.load in
      let distinct = places_distinct s.places h.places_held h.one_place_each in
      let below = places_within s.places h.places_held in
      omega (arith, pigeons 12 (map of s.places) distinct below, length-map s.places of)

  -- any entries but those of a number leave room for one of that number
  pub places_room : (p : Entry (ℕ × ℕ) → Bool) (n : ℕ) → any (numbered n) s.slots ≡ true → ((e : Entry (ℕ × ℕ)) → p e ≡ true → eqb e.load n ≡ false) → length (filter p s.places) ≤ 11
  places_room p n t away =
      let ps : List (Entry (ℕ × ℕ)) = filter p s.places in
      let there : AllByRecursion There ps = all_kept p There There (λ e i u. i) s.places h.places_held in
      let others : AllByRecursion (λ y. seat s.slots n ≡ y → ⊥) (map (λ (e : Entry (ℕ × ℕ)). seat s.slots e.load) ps) =
      all_loads (seat s.slots) (λ e. seat s.slots n ≡ seat s.slots e.load → ⊥) (λ y. seat s.slots n ≡ y → ⊥) (λ e i. i) ps
      (all_kept p There (λ e. seat s.slots n ≡ seat s.slots e.load → ⊥) (λ e i u q. eqb-false e.load n (away e u) (sym (seats_differ s.slots n e.load t i q))) s.places h.places_held) in
      omega (arith, pigeons 12 (seat s.slots n ∷ map (λ (e : Entry (ℕ × ℕ)). seat s.slots e.load) ps) (others, places_distinct ps there (apart_kept p s.places h.one_place_each)) (omega (arith, (seated s.slots n t).0, h.twelve), places_within ps there), length-map ps (λ (e : Entry (ℕ × ℕ)). seat s.slots e.load))
