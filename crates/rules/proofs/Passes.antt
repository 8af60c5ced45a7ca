-- For states whose waiting triggers ascend, a walk from moment to moment is one pass over what waits.
use Rattle.std.proofs.Common.{◌≡◌, ℕ, zero, suc, ◌+◌, ◌-◌, ◌*◌, ◌<◌, ◌≤◌, Bool, true, false, cond, not, ◌&&◌, ◌||◌, eqb, leb, ◌⊎◌, List, [], ◌∷◌, ◌++◌, map, length, get_or, Some, None, filter, Option, sym, refl, ap, ◌∙◌, ap₂, inl, inr, add-zero, add-suc, arith}
use Rattle.display.specs.Meaning.{Meaning, showed}
use Rattle.moment.specs.declared.times.Time.{Time}
use Rattle.moment.specs.declared.times.Time.TheVariants.{Now, At}
use Rattle.rules.specs.Clocks.{tick, ticked, walk, walked, expired}
use Rattle.rules.specs.Laws.{NeverFalls}
use Rattle.rules.specs.Passes.{gone, seen, shot, passed_to}
use Rattle.rules.specs.Triggers.{Effect}
use Rattle.rules.specs.Worlds.{State, World, slot_at, any, show_all, due}
use Rattle.slots.specs.Pieces.{part}
use Rattle.shelf.specs.declared.entries.Entry.{Entry}
use Rattle.slots.specs.Slides.{Slot, free, arriving, held, ends, passed, numbered, number_in, size_in}
use Rattle.std.proofs.ByRecursion.{kept_by_passes}
use Rattle.std.proofs.lemmas.List.{length-append, map-append}
use Rattle.std.proofs.lemmas.Bool.{cases_eq, cases_lt, cases_order, both_ways, cases_Bool, eqb-true, ne_eqb, eq-eqb, leb-false, le-leb, lt-leb, and_parts, not-true}
use Rattle.std.specs.List.{AllByRecursion}
use Rattle.rules.proofs.Moments.{all_mono}
use Rattle.shelf.proofs.Firsts.{kept_none}

-- what is left to wait for at t
abbrev left : State → ℕ → Entry ℕ → Bool
left s t e = not (leb e.key t) && not (gone s t e)

pub kept_kept : {X : Type 0} (p q : X → Bool) (xs : List X) → filter p (filter q xs) ≡ filter (λ x. q x && p x) xs
kept_kept p q [] = refl
kept_kept p q (x ∷ xs) = go (q x) (kept_kept p q xs)
  where
    go : (a : Bool) → filter p (filter q xs) ≡ filter (λ x. q x && p x) xs → filter p (cond a (x ∷ filter q xs) (filter q xs)) ≡ cond (a && p x) (x ∷ filter (λ x. q x && p x) xs) (filter (λ x. q x && p x) xs)
    go true ih = ap (λ ys. cond (p x) (x ∷ ys) ys) ih
    go false ih = ih

pub kept_same : {X : Type 0} (p q : X → Bool) → ((x : X) → p x ≡ q x) → (xs : List X) → filter p xs ≡ filter q xs
kept_same p q i [] = refl
kept_same p q i (x ∷ xs) = ap₂ (λ b ys. cond b (x ∷ ys) ys) (i x) (kept_same p q i xs)

pub kept_ext : {X : Type 0} (P : X → Type 0) (p q : X → Bool) → ((x : X) → P x → p x ≡ q x) → (xs : List X) → AllByRecursion P xs → filter p xs ≡ filter q xs
kept_ext P p q i [] h = refl
kept_ext P p q i (x ∷ xs) h = ap₂ (λ b ys. cond b (x ∷ ys) ys) (i x h.0) (kept_ext P p q i xs h.1)

pub kept_all : {X : Type 0} (p : X → Bool) (xs : List X) → AllByRecursion (λ x. p x ≡ true) xs → filter p xs ≡ xs
kept_all p [] h = refl
kept_all p (x ∷ xs) h = rw h.0 (ap (λ ys. x ∷ ys) (kept_all p xs h.1))

pub map_ext : {X Y : Type 0} (P : X → Type 0) (f g : X → Y) → ((x : X) → P x → f x ≡ g x) → (xs : List X) → AllByRecursion P xs → map f xs ≡ map g xs
map_ext P f g i [] h = refl
map_ext P f g i (x ∷ xs) h = ap₂ (λ y ys. y ∷ ys) (i x h.0) (map_ext P f g i xs h.1)

pub show_all_append : (xs ys : List Effect) (m : Meaning) → show_all m (xs ++ ys) ≡ show_all (show_all m xs) ys
show_all_append [] ys m = refl
show_all_append (x ∷ xs) ys m = show_all_append xs ys (showed m x.number x.moment x.body)

cond_same : {X : Type 0} (b : Bool) (x : X) → x ≡ cond b x x
cond_same true x = refl
cond_same false x = refl

pub getD_vacate : (test : Slot → Bool) (xs : List Slot) (k : ℕ) → get_or (map (λ x. cond (test x) free x) xs) k free ≡ cond (test (get_or xs k free)) free (get_or xs k free)
getD_vacate test [] k = cond_same (test free) free
getD_vacate test (x ∷ xs) zero = refl
getD_vacate test (x ∷ xs) (suc k) = getD_vacate test xs k

passed_sooner : (u t : ℕ) → u ≤ t → (e : Option Time) → passed t e ≡ false → passed u e ≡ false
passed_sooner u t h None i = refl
passed_sooner u t h (Some Now) i = i
passed_sooner u t h (Some (At m)) i = lt-leb m u (omega (arith, leb-false m t i))

pub ends_sooner : (u t : ℕ) → u ≤ t → (x : Slot) → ends t x ≡ false → ends u x ≡ false
ends_sooner u t h free i = refl
ends_sooner u t h (arriving o) i = passed_sooner u t h o.image.expire i
ends_sooner u t h (held x) i = passed_sooner u t h x.expire i

pub slot_false : (test : Slot → Bool) → test free ≡ false → (xs : List Slot) → AllByRecursion (λ x. test x ≡ false) xs → (k : ℕ) → test (get_or xs k free) ≡ false
slot_false test z [] h k = z
slot_false test z (x ∷ xs) h zero = h.0
slot_false test z (x ∷ xs) h (suc k) = slot_false test z xs h.1 k

pub freed_none : (test : Slot → Bool) (xs : List Slot) → AllByRecursion (λ x. test x ≡ false) xs → map (λ x. cond (test x) free x) xs ≡ xs
freed_none test [] h = refl
freed_none test (x ∷ xs) h = ap₂ (λ y ys. y ∷ ys) (rw h.0) (freed_none test xs h.1)

pub any_none : (test : Slot → Bool) (xs : List Slot) → AllByRecursion (λ x. test x ≡ false) xs → any test xs ≡ false
any_none test [] h = refl
any_none test (x ∷ xs) h = rw h.0 (any_none test xs h.1)

ends_later : (t : ℕ) (x : Slot) → ends t x ≡ true → ends (suc t) x ≡ true
ends_later t x h = go (cases_Bool (ends (suc t) x))
  where
    go : (ends (suc t) x ≡ true) ⊎ (ends (suc t) x ≡ false) → ends (suc t) x ≡ true
    go (inl e) = e
    go (inr e) = absurd (both_ways (ends t x) (ends_sooner t (suc t) (omega arith) x e) h)

abbrev cut : ℕ → Slot → Slot
cut t x = cond (ends t x) free x

-- tests of a moment against t and the next
glue : (b : Bool) (e : Entry ℕ) (us vs ws : List (Entry ℕ)) → us ++ vs ≡ ws → cond b (e ∷ us) us ++ vs ≡ cond b (e ∷ ws) ws
glue true e us vs ws i = ap (λ zs. e ∷ zs) i
glue false e us vs ws i = i

and_false : (a : Bool) → (a && false) ≡ false
and_false true = refl
and_false false = refl

and_true : (a : Bool) → (a && true) ≡ a
and_true true = refl
and_true false = refl

still_left : (m t : ℕ) (g : Bool) → ((not (leb m t) && not g) && not (eqb m (suc t))) ≡ (not (leb m (suc t)) && not g)
still_left m t g = go (cases_order m (suc t))
  where
    go : (m ≡ suc t) ⊎ ((m < suc t) ⊎ (suc t < m)) → ((not (leb m t) && not g) && not (eqb m (suc t))) ≡ (not (leb m (suc t)) && not g)
    go (inl e) = rw (eq-eqb m (suc t) e, le-leb m (suc t) (omega arith)) (and_false (not (leb m t) && not g))
    go (inr (inl e)) = rw (le-leb m t (omega arith), le-leb m (suc t) (omega arith))
    go (inr (inr e)) =
        rw (lt-leb m t (omega arith), lt-leb m (suc t) e, ne_eqb m (suc t) (omega arith)) (and_true (not g))

now_due : (m t : ℕ) (g : ℕ → Bool) → ((not (leb m t) && not (g (suc t))) && eqb m (suc t)) ≡ (eqb m (suc t) && not (g m))
now_due m t g = go (cases_eq m (suc t))
  where
    go : (m ≡ suc t) ⊎ (m ≡ suc t → ⊥) → ((not (leb m t) && not (g (suc t))) && eqb m (suc t)) ≡ (eqb m (suc t) && not (g m))
    go (inl e) = rw (eq-eqb m (suc t) e, lt-leb m t (omega arith), e) (and_true (not (g (suc t))))
    go (inr d) = rw (ne_eqb m (suc t) d) (and_false (not (leb m t) && not (g (suc t))))

after_cut : (a : Bool) (t : ℕ) (x : Slot) → ((not a && not (ends t x)) && not (ends (suc t) (cut t x))) ≡ (not a && not (ends (suc t) x))
after_cut a t x = go a (ends t x) refl
  where
    go : (a e : Bool) → ends t x ≡ e → ((not a && not e) && not (ends (suc t) (cond e free x))) ≡ (not a && not (ends (suc t) x))
    go true e i = refl
    go false true i = rw (ends_later t x i)
    go false false i = refl

cut_twice : (t : ℕ) (x : Slot) → cut (suc t) (cut t x) ≡ cut (suc t) x
cut_twice t x = go (ends t x) refl
  where
    go : (e : Bool) → ends t x ≡ e → cut (suc t) (cond e free x) ≡ cut (suc t) x
    go true i = rw (ends_later t x i)
    go false i = refl

cuts_twice : (t : ℕ) (xs : List Slot) → map (cut (suc t)) (map (cut t) xs) ≡ map (cut (suc t)) xs
cuts_twice t [] = refl
cuts_twice t (x ∷ xs) = ap₂ (λ y ys. y ∷ ys) (cut_twice t x) (cuts_twice t xs)

-- a category place goes with its slide, at t or at the next moment
lost_here : (t n : ℕ) (x : Slot) (a b : Bool) → (not ((ends t x && numbered n x) || a) && not ((ends (suc t) (cut t x) && numbered n (cut t x)) || b)) ≡ ((not (ends (suc t) x && numbered n x)) && (not a && not b))
lost_here t n x a b = go (ends t x) refl
  where
    tidy : (p a b : Bool) → (not a && not (p || b)) ≡ (not p && (not a && not b))
    tidy true true b = refl
    tidy true false b = refl
    tidy false a b = refl

    drop_false : (q a b : Bool) → (not (q || a) && not b) ≡ (not q && (not a && not b))
    drop_false true a b = refl
    drop_false false a b = refl

    go : (e : Bool) → ends t x ≡ e → (not ((e && numbered n x) || a) && not ((ends (suc t) (cond e free x) && numbered n (cond e free x)) || b)) ≡ ((not (ends (suc t) x && numbered n x)) && (not a && not b))
    go true i = rw (ends_later t x i) (drop_false (numbered n x) a b)
    go false i = tidy (ends (suc t) x && numbered n x) a b

lost_twice : (t n : ℕ) (xs : List Slot) → (not (any (λ x. ends t x && numbered n x) xs) && not (any (λ x. ends (suc t) x && numbered n x) (map (cut t) xs))) ≡ not (any (λ x. ends (suc t) x && numbered n x) xs)
lost_twice t n [] = refl
lost_twice t n (x ∷ xs) =
    lost_here t n x (any (λ x. ends t x && numbered n x) xs) (any (λ x. ends (suc t) x && numbered n x) (map (cut t) xs))
    ∙ (ap (λ b. not (ends (suc t) x && numbered n x) && b) (lost_twice t n xs) ∙ push (ends (suc t) x && numbered n x) (any (λ x. ends (suc t) x && numbered n x) xs))
  where
    push : (p q : Bool) → (not p && not q) ≡ not (p || q)
    push true q = refl
    push false q = refl

module _ (w : World) (t : ℕ) where
  abbrev pub s : State
  s = w.state

  -- at the moment after t
  abbrev pub next : Entry ℕ → Bool
  next e = eqb e.key (suc t) && not (gone s e.key e)

  abbrev pub IsLater : Entry ℕ → Type 0
  IsLater e = t < e.key

  beyond : (e : Entry ℕ) → IsLater e → next e ≡ seen s (suc t) e
  beyond e h = ap (λ b. b && not (gone s e.key e)) (go (cases_eq e.key (suc t)))
    where
      go : (e.key ≡ suc t) ⊎ (e.key ≡ suc t → ⊥) → eqb e.key (suc t) ≡ leb e.key (suc t)
      go (inl i) = eq-eqb e.key (suc t) i ∙ sym (le-leb e.key (suc t) (omega arith))
      go (inr n) = ne_eqb e.key (suc t) n ∙ sym (lt-leb e.key (suc t) (omega arith))

  pub split : (es : List (Entry ℕ)) → NeverFalls (map (λ (e : Entry ℕ). e.key) es) → filter (seen s t) es ++ filter next es ≡ filter (seen s (suc t)) es
  split [] h = refl
  split (e ∷ es) h = go (cases_lt t e.key) (split es h.1)
    where
      keys : (c : ℕ) (es : List (Entry ℕ)) → AllByRecursion (λ k. c ≤ k) (map (λ (e : Entry ℕ). e.key) es) → t < c → AllByRecursion IsLater es
      keys c [] a l = tt
      keys c (d ∷ es) a l = (omega (arith, a.0), keys c es a.1 l)

      go : (t < e.key) ⊎ (e.key ≤ t) → filter (seen s t) es ++ filter next es ≡ filter (seen s (suc t)) es → filter (seen s t) (e ∷ es) ++ filter next (e ∷ es) ≡ filter (seen s (suc t)) (e ∷ es)
      go (inr l) ih =
          rw (le-leb e.key t l, ne_eqb e.key (suc t) (omega arith), le-leb e.key (suc t) (omega arith))
          (glue (not (gone s e.key e)) e (filter (seen s t) es) (filter next es) (filter (seen s (suc t)) es) ih)
      go (inl l) ih =
          let all : AllByRecursion IsLater (e ∷ es) = (l, keys e.key es h.0 l) in
          ap (λ us. us ++ filter next (e ∷ es))
          (kept_none (seen s t) (e ∷ es)
          (all_mono IsLater (λ v. seen s t v ≡ false) (λ v i. ap (λ b. b && not (gone s v.key v)) (lt-leb v.key t i)) (e ∷ es) all))
          ∙ kept_ext IsLater next (seen s (suc t)) beyond (e ∷ es) all

  abbrev pub u : World
  u = passed_to t w

  abbrev pub v : World
  v = expired (suc t) u

  kept_left : u.state.waiting ≡ filter (left s t) s.waiting
  kept_left = kept_kept (λ e. not (gone s t e)) (λ e. not (leb e.key t)) s.waiting

  mid : v.state.waiting ≡ filter (λ e. not (leb e.key t) && not (gone s (suc t) e)) s.waiting
  mid =
      ap (filter (λ e. not (ends (suc t) (slot_at u.state e.load)))) kept_left
      ∙ (kept_kept (λ e. not (ends (suc t) (slot_at u.state e.load))) (left s t) s.waiting
      ∙ kept_same _ _
      (λ e.
      ap (λ x. left s t e && not (ends (suc t) x)) (getD_vacate (ends t) s.slots e.load)
      ∙ after_cut (leb e.key t) t (slot_at s e.load))
      s.waiting)

  pub shooting : due (suc t) v.state.waiting ≡ filter next s.waiting
  shooting =
      ap (due (suc t)) mid
      ∙ (kept_kept (λ e. eqb e.key (suc t)) (λ e. not (leb e.key t) && not (gone s (suc t) e)) s.waiting
      ∙ kept_same _ next (λ e. now_due e.key t (λ m. gone s m e)) s.waiting)

  leaving : filter (λ e. not (eqb e.key (suc t))) v.state.waiting ≡ (passed_to (suc t) w).state.waiting
  leaving =
      ap (filter (λ e. not (eqb e.key (suc t)))) mid
      ∙ (kept_kept (λ e. not (eqb e.key (suc t))) (λ e. not (leb e.key t) && not (gone s (suc t) e)) s.waiting
      ∙ (kept_same _ (left s (suc t)) (λ e. still_left e.key t (gone s (suc t) e)) s.waiting
      ∙ sym (kept_kept (λ e. not (gone s (suc t) e)) (λ e. not (leb e.key (suc t))) s.waiting)))

  pub same_shot : (e : Entry ℕ) → next e ≡ true → shot v e ≡ shot w e
  same_shot e h =
      let p = and_parts (eqb e.key (suc t)) (not (gone s e.key e)) h in
      let i : e.key ≡ suc t = eqb-true e.key (suc t) p.0 in
      let k : ℕ = e.load in
      let g : ends (suc t) (slot_at s k) ≡ false = ap (λ m. ends m (slot_at s k)) (sym i) ∙ not-true (gone s e.key e) p.1 in
      let x : slot_at v.state k ≡ slot_at s k =
      getD_vacate (ends (suc t)) u.state.slots k
      ∙ (ap (cut (suc t)) (getD_vacate (ends t) s.slots k) ∙ (cut_twice t (slot_at s k) ∙ ap (λ b. cond b free (slot_at s k)) g)) in
      ap (λ (y : Slot). record { number = number_in y; moment = e.key; body = part (k * s.room) (size_in y) w.memory }) x

  shown : NeverFalls (map (λ (e : Entry ℕ). e.key) s.waiting) → show_all u.display (map (shot v) (due (suc t) v.state.waiting)) ≡ (passed_to (suc t) w).display
  shown h =
      let a : List (Entry ℕ) = filter (seen s t) s.waiting in
      let b : List (Entry ℕ) = filter next s.waiting in
      ap (λ es. show_all u.display (map (shot v) es)) shooting
      ∙ (ap (show_all u.display) (map_ext (λ e. next e ≡ true) (shot v) (shot w) same_shot b (kept_by_passes next s.waiting))
      ∙ (sym (show_all_append (map (shot w) a) (map (shot w) b) w.display)
      ∙ ap (show_all w.display) (sym (map-append (shot w) a b) ∙ ap (map (shot w)) (split s.waiting h))))

  lost : v.state.places ≡ (passed_to (suc t) w).state.places
  lost =
      kept_kept (λ e. not (any (λ x. ends (suc t) x && numbered e.load x) u.state.slots)) (λ e. not (any (λ x. ends t x && numbered e.load x) s.slots)) s.places
      ∙ kept_same _ _ (λ e. lost_twice t e.load s.slots) s.places

  step_on : NeverFalls (map (λ (e : Entry ℕ). e.key) s.waiting) → (tick u ≡ passed_to (suc t) w) × (ticked u ≡ length (filter next s.waiting))
  unfolding tick ticked
  step_on h = (
    λ i. record {
      state = record {
        clock = suc t;
        given = s.given;
        recent = s.recent;
        room = s.room;
        slots = cuts_twice t s.slots i;
        waiting = leaving i;
        places = lost i;
      };
      memory = w.memory;
      display = shown h i;
    },
    ap length shooting,
  )

-- what a reading needs of a state
pub record Ready (s : State) : Type 0 where
  pub ascending : NeverFalls (map (λ (e : Entry ℕ). e.key) s.waiting)
  pub ahead : AllByRecursion (λ (e : Entry ℕ). s.clock < e.key) s.waiting
  pub alive : AllByRecursion (λ x. ends s.clock x ≡ false) s.slots

pub none_lost : (t n : ℕ) (xs : List Slot) → AllByRecursion (λ x. ends t x ≡ false) xs → not (any (λ x. ends t x && numbered n x) xs) ≡ true
none_lost t n xs h =
    ap not (any_none (λ x. ends t x && numbered n x) xs (all_mono (λ x. ends t x ≡ false) (λ x. (ends t x && numbered n x) ≡ false) (λ x e. ap (λ b. b && numbered n x) e) xs h))

pub every : {X : Type 0} (P : X → Type 0) → ((x : X) → P x) → (xs : List X) → AllByRecursion P xs
every P i [] = tt
every P i (x ∷ xs) = (i x, every P i xs)

-- a pass to the clock changes nothing
stay : (w : World) → Ready w.state → passed_to w.state.clock w ≡ w
stay w h =
    let s : State = w.state in
    let c : ℕ = s.clock in
    let none : filter (seen s c) s.waiting ≡ [] =
    kept_none (seen s c) s.waiting
    (all_mono (λ e. c < e.key) (λ e. seen s c e ≡ false) (λ e i. ap (λ b. b && not (gone s e.key e)) (lt-leb e.key c i)) s.waiting h.ahead) in
    let all : filter (left s c) s.waiting ≡ s.waiting =
    kept_all (left s c) s.waiting
    (all_mono (λ e. c < e.key) (λ e. left s c e ≡ true)
    (λ e i. ap₂ (λ a b. not a && not b) (lt-leb e.key c i) (slot_false (ends c) refl s.slots h.alive e.load)) s.waiting h.ahead) in
    let xs : map (λ x. cond (ends c x) free x) s.slots ≡ s.slots = freed_none (ends c) s.slots h.alive in
    let ps : filter (λ e. not (any (λ x. ends c x && numbered e.load x) s.slots)) s.places ≡ s.places =
    kept_all _ s.places (every _ (λ e. none_lost c e.load s.slots h.alive) s.places) in
    λ i. record {
      state = record {
        clock = c;
        given = s.given;
        recent = s.recent;
        room = s.room;
        slots = xs i;
        waiting = (kept_left w c ∙ all) i;
        places = ps i;
      };
      memory = w.memory;
      display = ap (λ es. show_all w.display (map (shot w) es)) none i;
    }

pub none_seen : (w : World) → Ready w.state → filter (seen w.state w.state.clock) w.state.waiting ≡ []
none_seen w h =
    let s : State = w.state in
    kept_none (seen s s.clock) s.waiting
    (all_mono (λ e. s.clock < e.key) (λ e. seen s s.clock e ≡ false) (λ e i. ap (λ b. b && not (gone s e.key e)) (lt-leb e.key s.clock i)) s.waiting h.ahead)

pub walks : (n : ℕ) (w : World) → Ready w.state → (walk n w ≡ passed_to (w.state.clock + n) w) × (walked n w ≡ length (filter (seen w.state (w.state.clock + n)) w.state.waiting))
walks zero w h =
    let e : w.state.clock + 0 ≡ w.state.clock = add-zero w.state.clock in (
      sym (stay w h) ∙ ap (λ x. passed_to x w) (sym e),
      sym (ap (λ x. length (filter (seen w.state x) w.state.waiting)) e ∙ ap length (none_seen w h)),
    )
walks (suc n) w h =
    let t : ℕ = w.state.clock + n in
    let e : w.state.clock + suc n ≡ suc t = add-suc w.state.clock n in
    let r = walks n w h in
    let g = step_on w t h.ascending in (
      ap tick r.0 ∙ (g.0 ∙ ap (λ x. passed_to x w) (sym e)),
      ap₂ ◌+◌ r.1 (ap ticked r.0 ∙ g.1)
          ∙ (sym (length-append (filter (seen w.state t) w.state.waiting) (filter (next w t) w.state.waiting))
          ∙ (ap length (split w t w.state.waiting h.ascending) ∙ ap (λ x. length (filter (seen w.state x) w.state.waiting)) (sym e))),
    )

-- the reading of t, in one pass
pub reading : (t : ℕ) (w : World) → Ready w.state → w.state.clock ≤ t → (walk (t - w.state.clock) w ≡ passed_to t w) × (walked (t - w.state.clock) w ≡ length (filter (seen w.state t) w.state.waiting))
reading t w h k =
    let e : w.state.clock + (t - w.state.clock) ≡ t = omega arith in
    let r = walks (t - w.state.clock) w h in
    (r.0 ∙ ap (λ x. passed_to x w) e, r.1 ∙ ap (λ x. length (filter (seen w.state x) w.state.waiting)) e)
