-- That no trigger waits for a slot, and which slot is the oldest, by the library's tests and choices.
use Rattle.std.proofs.Common.{◌≡◌, ℕ, zero, suc, ◌+◌, ◌<◌, ◌≤◌, Bool, true, false, cond, not, ◌&&◌, eqb, List, [], ◌∷◌, refl, sym, subst, ap, ◌∙◌, map, length, drop, filter, nat_lt, Some, None, Option, MatchOption, IsSome, Bor, add-one, arith}
use Rattle.rules.specs.Headers.{is_held, idle, lower, oldest_from}
use Rattle.rules.specs.Worlds.{State, slot_at}
use Rattle.shelf.specs.declared.entries.Entry.{Entry}
use Rattle.slots.specs.Seen.{index_of}
use Rattle.slots.specs.Slides.{free, number_in}
use Rattle.slots.specs.declared.indices.SlotIndex.{SlotIndex}
use Rattle.std.proofs.lemmas.Bool.{true≢false, cond-true, cond-false, le-ltb, lt-ltb}
use Rattle.std.proofs.lemmas.Iterator.{YieldsList, items_from_drains}
use Rattle.std.proofs.lemmas.List.{drop_more, drop_all}
use Rattle.std.specs.Cmp.{ranked}
use Rattle.std.specs.Fn.{Mut, Called, CalledAt}
use Rattle.std.specs.Iterator.{AlwaysYields, Yields, KeyTurn, PicksMinByKey}
use Rattle.std.specs.Iterator.Adapters.{filter_map_source, filter_map_callee, filter_map_steps}
use Rattle.std.specs.List.{FoldsTo, list_all, range_with_len}
use Rattle.std.specs.Ordering.{MatchOrdering, min_by_ordering, nat_cmp}
use Rattle.std.specs.declared.cmp.Ordering.{Ordering}
use Rattle.std.specs.declared.cmp.Ordering.TheVariants.{Less, Equal, Greater}

pub idle_all : (k : ℕ) (ws : List (Entry ℕ)) → list_all (λ e. not (eqb e.load k)) ws ≡ idle ws k
idle_all k [] = refl
idle_all k (e ∷ es) = ap (λ (b : Bool). not (eqb e.load k) && b) (idle_all k es)

-- the indices below 12 are those of the slots
module _ {S F : Type 0} (steps : S → Option ℕ → S → Type 0) (g : Mut F (ℕ × Unit {0}) (Option SlotIndex)) (f : F) (made : (x : ℕ) (o : Option SlotIndex) (q : F) → Called g f (x, tt) o q → (q ≡ f) × MatchOption o (12 ≤ x) (λ k. k.index ≡ x)) where
  abbrev From : ℕ → ℕ → S → Type 0
  From n i s = AlwaysYields steps (λ x. x) s (range_with_len i n)

  -- none is passed over
  in_place : (xs : List ℕ) (n i : ℕ) (s t : S) (p q : F) → p ≡ f → i + n ≡ 12 → From n i s → Yields steps s xs t → FoldsTo (λ p x q. Called g p (x, tt) None q) p xs q → (q ≡ f) × From n i t
  in_place [] n i s t p q a e w y c = (sym c ∙ a, subst (From n i) y w)
  in_place (x ∷ xs) zero i s t p q a e w y c = absurd (w x y.0 y.1)
  in_place (x ∷ xs) (suc n) i s t p q a e w y c =
      let high = (made x None c.0 (subst (λ h. Called g h (x, tt) None c.0) a c.1)).1 in
      absurd (omega (arith, (w.1 x y.0 y.1).0))

  abbrev Given : Option SlotIndex → F → F → Option ℕ → Type 0
  Given r c d o = MatchOption o ((r ≡ None) × (d ≡ c)) (λ x. Called g c (x, tt) r d × IsSome r)

  no_more : (o : Option ℕ) (k : SlotIndex) (i : ℕ) (s t : S) (c d : F) → From 0 i s → steps s o t → Given (Some k) c d o → ⊥
  no_more None k i s t c d w p h = subst (λ (r : Option SlotIndex). MatchOption r ⊥ (λ _. Unit {0})) h.0 tt
  no_more (Some x) k i s t c d w p h = w x t p

  not_yet : (o : Option ℕ) (n i : ℕ) (s t : S) (c d : F) → From (suc n) i s → steps s o t → Given None c d o → ⊥
  not_yet None n i s t c d w p h = w.0 t p
  not_yet (Some x) n i s t c d w p h = true≢false (sym h.1)

  one : (o : Option ℕ) (k : SlotIndex) (n i : ℕ) (s t : S) (c d : F) → c ≡ f → From (suc n) i s → steps s o t → Given (Some k) c d o → (k.index ≡ i) × (d ≡ f) × From n (i + 1) t
  one None k n i s t c d a w p h = absurd (w.0 t p)
  one (Some x) k n i s t c d a w p h =
      let m = made x (Some k) d (subst (λ u. Called g u (x, tt) (Some k) d) a h.0) in
      let r = w.1 x t p in
      (m.1 ∙ r.0, m.0, r.1)

  indices : (n i : ℕ) (s : _) → i + n ≡ 12 → filter_map_callee s ≡ f → From n i (filter_map_source s) → AlwaysYields (filter_map_steps steps g) (λ k. k.index) s (range_with_len i n)
  indices zero i s e a w = λ k j p.
      let z = in_place p.0 zero i _ _ _ _ a e w p.3.1 p.4 in
      no_more p.1 k i _ _ _ _ z.1 p.3.2 p.5
  indices (suc n) i s e a w = (
    (λ j p.
        let z = in_place p.0 (suc n) i _ _ _ _ a e w p.3.1 p.4 in
        not_yet p.1 n i _ _ _ _ z.1 p.3.2 p.5),
    λ k j p.
        let z = in_place p.0 (suc n) i _ _ _ _ a e w p.3.1 p.4 in
        let m = one p.1 k n i _ _ _ _ z.0 z.1 p.3.2 p.5 in
        (m.0, indices n (i + 1) j (omega arith) m.1 m.2),
  )

  pub YieldsList-indices : (s : _) → YieldsList steps (λ x. x) (filter_map_source s) (range_with_len 0 12) → filter_map_callee s ≡ f → YieldsList (filter_map_steps steps g) (λ k. k.index) s (range_with_len 0 12)
  YieldsList-indices s w a = record { runs = indices 12 0 s refl a w.runs }

module _ (s : State) where
  abbrev number : ℕ → ℕ
  number k = number_in (slot_at s k)

  abbrev pub may_go : ℕ → Bool
  may_go k = is_held (slot_at s k) && idle s.waiting k

  -- the one with the lowest number, of the best so far and these
  abbrev pub least : Option ℕ → List ℕ → Option ℕ
  least best [] = best
  least best (k ∷ ks) = least (cond (lower s (number k) best) (Some k) best) ks

  go : (a b : Bool) (k : ℕ) (best : Option ℕ) (ks : List ℕ) → least (cond (a && (b && lower s (number k) best)) (Some k) best) ks ≡ least best (cond (a && b) (k ∷ ks) ks)
  go true true k best ks = refl
  go true false k best ks = refl
  go false b k best ks = refl

  along : (n k : ℕ) (best : Option ℕ) → k + n ≡ length s.slots → oldest_from s k (drop k s.slots) best ≡ least best (filter may_go (range_with_len k n))
  along zero k best e = ap (λ xs. oldest_from s k xs best) (drop_all k s.slots (omega arith))
  along (suc n) k best e =
      let better = cond (is_held (slot_at s k) && (idle s.waiting k && lower s (number k) best)) (Some k) best in
      ap (λ xs. oldest_from s k xs best) (drop_more s.slots k free (omega arith))
      ∙ (ap (λ (j : ℕ). oldest_from s j (drop (k + 1) s.slots) better) (sym (add-one k))
      ∙ (along n (k + 1) better (omega arith) ∙ go (is_held (slot_at s k)) (idle s.waiting k) k best _))

  pub oldest_least : length s.slots ≡ 12 → oldest_from s 0 s.slots None ≡ least None (filter may_go (range_with_len 0 12))
  oldest_least e = along 12 0 None (sym e)

  -- the library's choice of two
  picked : (o : Ordering) (a b : ℕ) (y x : SlotIndex) → MatchOrdering o (a < b) (a ≡ b) (b < a) → Some (min_by_ordering o y x).index ≡ cond (nat_lt b a) (Some x.index) (Some y.index)
  picked Less a b y x h = sym (cond-false (nat_lt b a) _ _ (le-ltb b a (omega arith)))
  picked Equal a b y x h = sym (cond-false (nat_lt b a) _ _ (le-ltb b a (omega arith)))
  picked Greater a b y x h = sym (cond-true (nat_lt b a) _ _ (lt-ltb b a (omega arith)))

  its_number : (o : Ordering) (a b : ℕ) (y x : SlotIndex) → a ≡ number y.index → b ≡ number x.index → min_by_ordering o a b ≡ number (min_by_ordering o y x).index
  its_number Less a b y x e f = e
  its_number Equal a b y x e f = e
  its_number Greater a b y x e f = f

  module _ {S F : Type 0} (steps : S → Option SlotIndex → S → Type 0) (g : Mut F (Bor SlotIndex × Unit {0}) ℕ) (f : F) (told : (x : SlotIndex) (n : ℕ) (q : F) → CalledAt g f x n q → (q ≡ f) × (n ≡ number x.index)) where
    folds : (xs : List SlotIndex) (c : F) (a : ℕ) (y z : SlotIndex) (q : F × ℕ) → c ≡ f → a ≡ number y.index → FoldsTo {P = (F × ℕ) × SlotIndex} (KeyTurn min_by_ordering min_by_ordering g nat_cmp) ((c, a), y) xs (q, z) → Some z.index ≡ least (Some y.index) (map (λ k. k.index) xs)
    folds [] c a y z q e h t = ap (λ (p : (F × ℕ) × SlotIndex). Some p.1.index) (sym t)
    folds (x ∷ xs) c a y z q e h t =
        let u = t.1 in
        let m = told x u.0 _ (subst (λ v. CalledAt g v x u.0 t.0.0.0) e u.2) in
        let n : t.0.0.1 ≡ number t.0.1.index = u.4 ∙ its_number u.1 a u.0 y x h m.1 ∙ ap (λ (k : SlotIndex). number k.index) (sym u.5) in
        let best = ap (λ (k : SlotIndex). Some k.index) u.5 ∙ picked u.1 a u.0 y x (ranked a u.0 u.1 (sym u.3)) ∙ ap (λ (i : ℕ). cond (nat_lt i a) (Some x.index) (Some y.index)) m.1 ∙ ap (λ (i : ℕ). cond (nat_lt (number x.index) i) (Some x.index) (Some y.index)) h in
        folds xs t.0.0.0 t.0.0.1 t.0.1 z q m.0 n t.2 ∙ ap (λ o. least o (map (λ k. k.index) xs)) best

    pub least_found : (it : S) (r : Option SlotIndex) (ks : List ℕ) → PicksMinByKey steps g nat_cmp it f r → YieldsList steps (λ k. k.index) it ks → index_of r ≡ least None ks
    least_found it None ks d w = ap (least None) (items_from_drains [] (d.1.0, d.1.1, λ _. (d.0, d.1.2)) w)
    least_found it (Some z) ks h w =
        let d = h.5 in
        let m = told h.0 h.2 h.3 h.6 in
        folds h.1 h.3 h.2 h.0 z h.4 m.0 m.1 h.7 ∙ ap (least None) (items_from_drains (h.0 ∷ h.1) (d.1.0, d.1.1, λ _. (d.0, d.1.2)) w)
