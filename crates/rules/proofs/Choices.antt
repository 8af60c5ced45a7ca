-- Which slot a header gets.
use Rattle.std.proofs.Common.{◌≡◌, ℕ, zero, suc, ◌+◌, ◌<◌, Bool, true, false, cond, not, ◌&&◌, eqb, List, [], ◌∷◌, length, get_or, Some, None, filter, Option, sym, refl, ap, ◌∙◌, arith}
use Rattle.rules.specs.Headers.{is_held, idle, lower, oldest_from, or_else, slot_for}
use Rattle.rules.specs.Soundness.{Sound}
use Rattle.rules.specs.Worlds.{State, slot_at, undone}
use Rattle.shelf.specs.declared.entries.Entry.{Entry}
use Rattle.slots.specs.Searches.{first_slot, first_free, free_from, next}
use Rattle.slots.specs.Slides.{Slot, Slide, free, arriving, held, comes, is_free, number_in}
use Rattle.std.proofs.lemmas.Bool.{cond_both, both_ways, and_parts, eqb-false, ne_eqb}
use Rattle.std.specs.List.{AllByRecursion}
use Rattle.rules.proofs.Finds.{found_at}

-- where nothing waits for a slot, nothing is undone
pub idle_undone : (s : State) (k : ℕ) → idle s.waiting k ≡ true → undone k s ≡ s.waiting
idle_undone s k h = go s.waiting h
  where
    go : (ws : List (Entry ℕ)) → idle ws k ≡ true → filter (λ e. not (eqb e.load k)) ws ≡ ws
    go [] h = refl
    go (e ∷ ws) h =
        let t = and_parts (not (eqb e.load k)) (idle ws k) h in
        rw t.0 (ap (λ vs. e ∷ vs) (go ws t.1))

-- nothing waits for a slot that holds no slide
pub unheld_idle : (xs : List Slot) (k : ℕ) → is_held (get_or xs k free) ≡ false → (ws : List (Entry ℕ)) → AllByRecursion (λ (e : Entry ℕ). is_held (get_or xs e.load free) ≡ true) ws → idle ws k ≡ true
unheld_idle xs k i [] h = refl
unheld_idle xs k i (e ∷ ws) h =
    let d : e.load ≡ k → ⊥ = λ q. both_ways (is_held (get_or xs k free)) i (ap (λ n. is_held (get_or xs n free)) (sym q) ∙ h.0) in
    rw (ne_eqb e.load k d) (unheld_idle xs k i ws h.1)

next_within : (k : ℕ) → k < 12 → next k < 12
next_within k h = cond_both (eqb k 11) 0 (k + 1) (λ n. n < 12) (λ e. omega arith) (λ e. let d : k ≡ 11 → ⊥ = eqb-false k 11 e in omega arith)

free_found : (xs : List Slot) (n k j : ℕ) → k < 12 → free_from xs n k ≡ Some j → (j < 12) × (is_free (get_or xs j free) ≡ true)
free_found xs zero k j lt e = absurd (let z : ◌≡◌ {A = ℕ} 0 1 = cc in omega arith)
free_found xs (suc n) k j lt e = go (is_free (get_or xs k free)) refl e (free_found xs n (next k) j (next_within k lt))
  where
    go : (b : Bool) → is_free (get_or xs k free) ≡ b → cond b (Some k) (free_from xs n (next k)) ≡ Some j → (free_from xs n (next k) ≡ Some j → (j < 12) × (is_free (get_or xs j free) ≡ true)) → (j < 12) × (is_free (get_or xs j free) ≡ true)
    go true i q ih = let z : k ≡ j = cc in (omega arith, rw (← z) i)
    go false i q ih = ih q

-- the oldest is held, and nothing waits for it
abbrev Old : State → Option ℕ → Type 0
Old s None = Unit {0}
Old s (Some j) = (j < length s.slots) × (idle s.waiting j ≡ true)

oldest_old : (s : State) (k : ℕ) (xs : List Slot) (best : Option ℕ) → k + length xs ≡ length s.slots → Old s best → Old s (oldest_from s k xs best)
oldest_old s k [] best e h = h
oldest_old s k (x ∷ xs) best e h =
    oldest_old s (suc k) xs _ (omega arith)
    (cond_both (is_held x && (idle s.waiting k && lower s (number_in x) best)) (Some k) best (Old s)
    (λ t. let u = and_parts (is_held x) _ t in (omega arith, (and_parts (idle s.waiting k) _ u.1).0)) (λ t. h))

unheld : (test : Slot → Bool) → ((x : Slide) → test (held x) ≡ false) → (z : Slot) → test z ≡ true → is_held z ≡ false
unheld test i free t = refl
unheld test i (arriving o) t = refl
unheld test i (held x) t = absurd (both_ways (test (held x)) (i x) t)

-- the slot that a header gets lies among the twelve, and nothing waits for it
pub slot_for_some : (s : State) (t k : ℕ) → Sound s → slot_for s t ≡ Some k → (k < 12) × (idle s.waiting k ≡ true)
slot_for_some s t k h e = go (first_slot (comes t) s.slots) (first_free s.slots s.recent) refl refl e
  where
    go : (o p : Option ℕ) → first_slot (comes t) s.slots ≡ o → first_free s.slots s.recent ≡ p → or_else o (or_else p (oldest_from s 0 s.slots None)) ≡ Some k → (k < 12) × (idle s.waiting k ≡ true)
    go (Some j) p i d e =
        let g = found_at (comes t) s.slots k (i ∙ e) in
        (omega (arith, g.0, h.twelve), unheld_idle s.slots k (unheld (comes t) (λ x. refl) (slot_at s k) g.1) s.waiting h.waiting_held)
    go None (Some j) i d e =
        let g = free_found s.slots 12 (next s.recent) k (next_within s.recent h.round) (d ∙ e) in
        (g.0, unheld_idle s.slots k (unheld is_free (λ x. refl) (slot_at s k) g.1) s.waiting h.waiting_held)
    go None None i d e =
        let z = rw e at (oldest_old s 0 s.slots None (omega arith) tt) in
        (omega (arith, z.0, h.twelve), z.1)
