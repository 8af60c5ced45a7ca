-- The ledger follows the receiver: what it means, and the primitives.
use Rattle.std.proofs.Common.{◌≡◌, ℕ, zero, suc, ◌+◌, ◌*◌, ◌<◌, ◌≤◌, Bool, true, false, cond, not, eqb, ltb, leb, ◌⊎◌, List, [], ◌∷◌, ◌++◌, map, length, get_or, set, Some, None, filter, Option, sym, refl, ap, ◌∙◌, subst, ap₂, inl, inr, arith}
use Rattle.display.proofs.Shown.{accepts_true}
use Rattle.display.specs.Meaning.{Meaning, Card, Keeps, accepts}
use Rattle.header.specs.Sound.{InTime}
use Rattle.header.specs.declared.kinds.Category.{Category}
use Rattle.moment.specs.declared.times.Time.{Time}
use Rattle.moment.specs.declared.times.Time.TheVariants.{Now, At}
use Rattle.rules.specs.Effects.{arming_effects, due_effects}
use Rattle.rules.specs.Assembly.{put}
use Rattle.rules.specs.Headers.{resent}
use Rattle.rules.specs.Laws.{card_of, latest}
use Rattle.rules.specs.Ledgers.{Ledger, Known, body_in, leave, effect_of, happen, cleared, arming}
use Rattle.rules.specs.Soundness.{Sound, SlotSound}
use Rattle.rules.specs.Triggers.{Verdict, nothing, effect, late, wait, verdict, Effect}
use Rattle.rules.specs.Worlds.{State, World, slot_at, body_at, holding, with_state, vacate, undone, show_all, effect_at, due, fire, armed, categorised}
use Rattle.slots.specs.Pieces.{part}
use Rattle.shelf.specs.declared.entries.Entry.{Entry}
use Rattle.slots.specs.Slides.{Slot, free, arriving, held, Object, Slide, resent_slide, comes, number_in, size_in}
use Rattle.std.proofs.lemmas.List.{append-nil, length-take, length-drop}
use Rattle.std.proofs.lemmas.Bool.{cond-false, cases_eq, ne_eqb, eq-eqb, not-true}
use Rattle.std.specs.List.{AllByRecursion}
use Rattle.rules.proofs.Moments.{all_append}
use Rattle.rules.proofs.Sounds.{freed, at_set, sound_vacate, still_held, resent_is}
use Rattle.rules.proofs.Pairs.{Both, none, more, both_kept, both_tied, both_map, both_all, both_shelved}
use Rattle.rules.proofs.Passes.{kept_all, getD_vacate, every}
use Rattle.slots.proofs.Pieces.{Pieces}

-- the last moment that a time field can name
abbrev pub newest : ℕ
newest = 11324620799999

-- the display that was opened over, with another card
abbrev pub dressed : Meaning → Option Card → Meaning
dressed m c = record { frame = m.frame; lag = m.lag; settle = m.settle; card = c }

-- an entry of the receiver and one of the ledger: the same moment, and the slot holds the number
pub record Stands (xs : List Slot) (w v : Entry ℕ) : Type 0 where
  pub when : w.key ≡ v.key
  pub soon : w.key ≤ newest
  pub slide : Slide
  pub slot : get_or xs w.load free ≡ held slide
  pub number : slide.number ≡ v.load

-- what the ledger knows of the slide in a slot, whose bytes begin at base
pub record Holds (base S : ℕ) (m : List ℕ) (y : Known) (x : Slide) : Type 0 where
  pub name : y.name ≡ x.name
  pub expire : y.expire ≡ x.expire
  pub there : base + S ≤ length m
  pub body : body_in y ≡ part base x.size m

pub record Comes (base S : ℕ) (m : List ℕ) (y : Known) (o : Object) : Type 0 where
  pub name : y.name ≡ o.image.name
  pub expire : y.expire ≡ o.image.expire
  pub trigger : y.trigger ≡ o.image.trigger
  pub timely : InTime o.image.trigger
  pub there : base + S ≤ length m
  pub p : ℕ
  pub sized : (q : ℕ) → o.progress.piece ≡ Some q → q ≡ p
  pub unsized : o.progress.piece ≡ None → o.progress.taken ≡ 0
  pub pieces : Pieces base p o.progress.size m o.progress.last o.progress.taken y.pieces

abbrev pub Knows : ℕ → ℕ → List ℕ → Known → Slot → Type 0
Knows base S m y free = Unit {0}
Knows base S m y (arriving o) = Comes base S m y o
Knows base S m y (held x) = Holds base S m y x

pub record Follows (m : Meaning) (w : World) (l : Ledger) : Type 0 where
  pub clock : l.clock ≡ w.state.clock
  pub early : w.state.clock ≤ newest
  pub framed : w.state.room ≤ m.frame
  pub waits : Both (Stands w.state.slots) w.state.waiting l.waiting
  pub knows : (k : ℕ) → Knows (k * w.state.room) w.state.room w.memory (l.known (number_in (slot_at w.state k))) (slot_at w.state k)
  pub display : w.display ≡ dressed m (latest m.settle m.card l.history)
  pub accepted : AllByRecursion (λ x. accepts m x.number x.moment x.body ≡ true) l.history

-- a history that goes on
pub latest_append : (settle : ℕ → ℕ) (c : Option Card) (xs ys : List Effect) → latest settle c (xs ++ ys) ≡ latest settle (latest settle c xs) ys
latest_append settle c [] ys = refl
latest_append settle c (x ∷ xs) ys = latest_append settle (Some (card_of settle x)) xs ys

-- a slot that holds a slide is one of the list
pub inside : (xs : List Slot) (k : ℕ) (x : Slide) → get_or xs k free ≡ held x → k < length xs
inside [] k x h = let z : ◌≡◌ {A = ℕ} 0 1 = cc in absurd (omega arith)
inside (y ∷ xs) zero x h = omega arith
inside (y ∷ xs) (suc k) x h = let z : k < length xs = inside xs k x h in omega arith

eqb_agree : (i j m n : ℕ) → (i ≡ j → m ≡ n) → (m ≡ n → i ≡ j) → eqb i j ≡ eqb m n
eqb_agree i j m n to back = go (cases_eq m n)
  where
    go : (m ≡ n) ⊎ (m ≡ n → ⊥) → eqb i j ≡ eqb m n
    go (inl e) = eq-eqb i j (back e) ∙ sym (eq-eqb m n e)
    go (inr d) = ne_eqb i j (λ e. d (to e)) ∙ sym (ne_eqb m n d)

-- a trigger that waits does so for a valid moment
pub timed : (c : ℕ) (t : Option Time) (m : ℕ) → InTime t → verdict c t ≡ wait m → m ≤ newest
timed c None m b e = let z : ◌≡◌ {A = ℕ} 0 1 = cc in absurd (omega arith)
timed c (Some Now) m b e = let z : ◌≡◌ {A = ℕ} 0 1 = cc in absurd (omega arith)
timed c (Some (At t)) m b e = go (eqb t c) (ltb t c) e
  where
    go : (x y : Bool) → cond x effect (cond y late (wait t)) ≡ wait m → m ≤ newest
    go true y e = let z : ◌≡◌ {A = ℕ} 0 1 = cc in absurd (omega arith)
    go false true e = let z : ◌≡◌ {A = ℕ} 0 1 = cc in absurd (omega arith)
    go false false e = let z : t ≡ m = cc in rw (← z) b.1

-- the slide in slot k has another TransportId: what waits stands as before
stand_under : (xs : List Slot) (k t : ℕ) (x : Slide) (a b : Entry ℕ) → get_or xs k free ≡ held x → k < length xs → Stands xs a b → Stands (set xs k (held (resent_slide t x))) a b
stand_under xs k t x a b i lt r =
    elim (at_set xs k (held (resent_slide t x)) lt a.load) [
      | inl e ↦
          let q : held r.slide ≡ held x = sym r.slot ∙ (ap (λ n. get_or xs n free) e.0 ∙ i) in
          record { when = r.when; soon = r.soon; slide = resent_slide t x; slot = e.1; number = sym (ap number_in q) ∙ r.number }
      | inr e ↦ record { when = r.when; soon = r.soon; slide = r.slide; slot = e.1 ∙ r.slot; number = r.number }
    ]

-- where no slide leaves, nothing does
none_leave : (l : Ledger) → leave (λ y. false) l ≡ l
none_leave l =
    λ i. record { clock = l.clock; known = l.known; waiting = kept_all (λ e. true) l.waiting (every (λ e. true ≡ true) (λ e. refl) l.waiting) i; history = l.history }

module _ (m : Meaning) (keeps : Keeps m) where
  abbrev Fine : Effect → Type 0
  Fine x = accepts m x.number x.moment x.body ≡ true

  -- shows that are not refused
  all_shown : (c : Option Card) (es : List Effect) → AllByRecursion Fine es → show_all (dressed m c) es ≡ dressed m (latest m.settle c es)
  all_shown c [] h = refl
  all_shown c (x ∷ es) h =
      ap (λ (b : Bool). show_all (cond b (dressed m (Some (card_of m.settle x))) (dressed m c)) es) h.0
      ∙ all_shown (Some (card_of m.settle x)) es h.1

  module _ (w : World) (l : Ledger) (sound : Sound w.state) (h : Follows m w l) where
    abbrev s : State
    s = w.state

    abbrev S : ℕ
    S = w.state.room

    pub holds : (k : ℕ) (x : Slide) → slot_at s k ≡ held x → Holds (k * S) S w.memory (l.known x.number) x
    holds k x i = subst (λ z. Knows (k * S) S w.memory (l.known (number_in z)) z) i (h.knows k)

    slide_sound : (k : ℕ) (x : Slide) → slot_at s k ≡ held x → SlotSound s.clock s.given S (held x)
    slide_sound k x i = subst (SlotSound s.clock s.given S) i (sound.slot_sound k)

    same_effect : (k : ℕ) (x : Slide) (n t t' : ℕ) → slot_at s k ≡ held x → x.number ≡ n → t ≡ t' → effect_at w t k ≡ effect_of l t' n
    same_effect k x n t t' i e z =
        let g = holds k x i in
        let b : part (k * S) (size_in (slot_at s k)) w.memory ≡ body_in (l.known n) =
        ap (λ y. part (k * S) (size_in y) w.memory) i ∙ (sym g.body ∙ ap (λ j. body_in (l.known j)) e) in
        λ r. record { number = (ap number_in i ∙ e) r; moment = z r; body = b r }

    -- no show is refused
    welcome : (k : ℕ) (x : Slide) (t : ℕ) → slot_at s k ≡ held x → t ≤ newest → Fine (effect_at w t k)
    welcome k x t i le =
        let g = holds k x i in
        let ok = slide_sound k x i in
        let z : length (body_at w k) ≡ x.size =
        ap (λ y. length (part (k * S) (size_in y) w.memory)) i ∙ simp (length-take, length-drop) (omega (arith, g.there, ok.3)) in
        let n : number_in (slot_at s k) ≡ x.number = ap number_in i in
        accepts_true m (number_in (slot_at s k)) t (body_at w k)
        (omega (arith, ok.2, z), omega (arith, ok.3, z, h.framed), omega (arith, n, ok.0), omega (arith, keeps.lag_small))

    -- tests that agree on what both know
    pub vacated : (test : Slot → Bool) (q : Known → Bool) → ((x : Slide) (y : Known) → y.name ≡ x.name → y.expire ≡ x.expire → test (held x) ≡ q y) → Follows m (with_state (vacate test s) w) (leave q l)
    vacated test q same =
        record {
          clock = h.clock;
          early = h.early;
          framed = h.framed;
          waits =
              both_kept (λ e. not (test (slot_at s e.load))) (λ e. not (q (l.known e.load)))
              (λ a b r.
              let g = holds a.load r.slide r.slot in
              ap (λ x. not (test x)) r.slot
              ∙ (ap not (same r.slide (l.known r.slide.number) g.name g.expire) ∙ ap (λ n. not (q (l.known n))) r.number))
              (λ a b r e.
              record {
                when = r.when;
                soon = r.soon;
                slide = r.slide;
                slot =
                    getD_vacate test s.slots a.load
                    ∙ (cond-false (test (slot_at s a.load)) free (slot_at s a.load) (not-true (test (slot_at s a.load)) e) ∙ r.slot);
                number = r.number;
              })
              h.waits;
          knows = λ k.
              rw (getD_vacate test s.slots k)
              (freed (test (slot_at s k)) (slot_at s k) (λ x. Knows (k * S) S w.memory (l.known (number_in x)) x) tt (h.knows k));
          display = h.display;
          accepted = h.accepted;
        }

    -- the slide in slot k has another TransportId
    under : (k t : ℕ) (x : Slide) → slot_at s k ≡ held x → k < length s.slots → Follows m (with_state (put k (held (resent_slide t x)) s) w) l
    under k t x i lt =
        record {
          clock = h.clock;
          early = h.early;
          framed = h.framed;
          waits = both_tied (λ a b r. stand_under s.slots k t x a b i lt r) h.waits;
          knows = λ j.
              let P : Slot → Type 0 = λ z. Knows (j * S) S w.memory (l.known (number_in z)) z in
              elim (at_set s.slots k (held (resent_slide t x)) lt j) [
                | inl e ↦
                    let g = holds j x (ap (λ n. slot_at s n) e.0 ∙ i) in
                    subst P (sym e.1) (record { name = g.name; expire = g.expire; there = g.there; body = g.body })
                | inr e ↦ subst P (sym e.1) (h.knows j)
              ];
          display = h.display;
          accepted = h.accepted;
        }

    -- the history goes on with effects that both see
    shown_more : (ws vs : List (Entry ℕ)) → Both (Stands s.slots) ws vs → (show_all w.display (map (λ e. effect_at w e.key e.load) ws) ≡ dressed m (latest m.settle m.card (l.history ++ map (λ e. effect_of l e.key e.load) vs))) × AllByRecursion Fine (l.history ++ map (λ e. effect_of l e.key e.load) vs)
    shown_more ws vs pairs =
        let es : List Effect = map (λ e. effect_of l e.key e.load) vs in
        let same : map (λ e. effect_at w e.key e.load) ws ≡ es =
        both_map (λ e. effect_at w e.key e.load) (λ e. effect_of l e.key e.load)
        (λ a b r. same_effect a.load r.slide b.load a.key b.key r.slot r.number r.when) pairs in
        let fine : AllByRecursion Fine (map (λ e. effect_at w e.key e.load) ws) =
        both_all (λ e. effect_at w e.key e.load) Fine (λ a b r. welcome a.load r.slide a.key r.slot r.soon) pairs in
        let fine' : AllByRecursion Fine es = subst (AllByRecursion Fine) same fine in (
          ap₂ (λ d xs. show_all d xs) h.display same
              ∙ (all_shown (latest m.settle m.card l.history) es fine'
              ∙ ap (dressed m) (sym (latest_append m.settle m.card l.history es))),
          all_append Fine l.history es h.accepted fine',
        )

    -- the history goes on with what takes effect
    pub due_told : (t : ℕ) → (happen t l).history ≡ l.history ++ due_effects t w
    due_told t =
        ap (λ es. l.history ++ es)
        (sym (both_map (λ e. effect_at w e.key e.load) (λ e. effect_of l e.key e.load)
        (λ a b r. same_effect a.load r.slide b.load a.key b.key r.slot r.number r.when)
        (both_kept (λ e. eqb e.key t) (λ e. eqb e.key t) (λ a b r. ap (λ x. eqb x t) r.when) (λ a b r e. r) h.waits)))

    pub arming_told : (v : Verdict) (k : ℕ) (x : Slide) → slot_at s k ≡ held x → (arming v x.number l).history ≡ l.history ++ arming_effects v k w
    arming_told nothing k x i = sym (append-nil l.history)
    arming_told late k x i = sym (append-nil l.history)
    arming_told effect k x i =
        ap (λ e. l.history ++ e ∷ []) (sym (same_effect k x x.number s.clock l.clock i refl (sym h.clock)))
    arming_told (wait t) k x i = sym (append-nil l.history)

    -- the triggers of a moment take effect
    pub fired : (t : ℕ) → t ≤ newest → Follows m (fire t w) (happen t l)
    fired t ok =
        let more = shown_more (due t s.waiting) (filter (λ e. eqb e.key t) l.waiting)
        (both_kept (λ e. eqb e.key t) (λ e. eqb e.key t) (λ a b r. ap (λ x. eqb x t) r.when) (λ a b r e. r) h.waits) in
        record {
          clock = refl;
          early = ok;
          framed = h.framed;
          waits = both_kept (λ e. not (eqb e.key t)) (λ e. not (eqb e.key t)) (λ a b r. ap (λ x. not (eqb x t)) r.when) (λ a b r e. r) h.waits;
          knows = h.knows;
          display = more.0;
          accepted = more.1;
        }

    -- other waiting triggers
    waits_changed : (ws vs : List (Entry ℕ)) (ps : List (Entry (ℕ × ℕ))) → Both (Stands s.slots) ws vs → Follows m (with_state (holding s.slots ws ps s) w) (record { clock = l.clock; known = l.known; waiting = vs; history = l.history })
    waits_changed ws vs ps i =
        record {
          clock = h.clock;
          early = h.early;
          framed = h.framed;
          waits = i;
          knows = h.knows;
          display = h.display;
          accepted = h.accepted;
        }

    pub categories_changed : (c : Option Category) (n : ℕ) → Follows m (categorised c n w) l
    categories_changed c n =
        record {
          clock = h.clock;
          early = h.early;
          framed = h.framed;
          waits = h.waits;
          knows = h.knows;
          display = h.display;
          accepted = h.accepted;
        }

    pub later_only : (t : ℕ) → Follows m (with_state (holding s.slots (filter (λ e. leb t e.key) s.waiting) s.places s) w) (record { clock = l.clock; known = l.known; waiting = filter (λ e. leb t e.key) l.waiting; history = l.history })
    later_only t =
        waits_changed _ _ _ (both_kept (λ e. leb t e.key) (λ e. leb t e.key) (λ a b r. ap (leb t) r.when) (λ a b r e. r) h.waits)

    -- arming, for the number that slot k holds
    undoes : (k : ℕ) (x : Slide) → slot_at s k ≡ held x → Both (Stands s.slots) (undone k s) (cleared x.number l)
    undoes k x i =
        both_kept (λ e. not (eqb e.load k)) (λ e. not (eqb e.load x.number))
        (λ a b r.
        ap not
        (eqb_agree a.load k b.load x.number
        (λ q.
        let j : held r.slide ≡ held x = sym r.slot ∙ (ap (λ n. get_or s.slots n free) q ∙ i) in
        sym r.number ∙ ap number_in j)
        (λ q.
        let z : number_in (slot_at s a.load) ≡ b.load = ap number_in r.slot ∙ r.number in
        let u : number_in (slot_at s k) ≡ x.number = ap number_in i in
        sound.numbers_distinct a.load k (omega (arith, z, q, (slide_sound k x i).0)) (z ∙ (q ∙ sym u)))))
        (λ a b r e. r) h.waits

    pub arms : (v : Verdict) (k : ℕ) (x : Slide) → slot_at s k ≡ held x → ((t : ℕ) → v ≡ wait t → t ≤ newest) → Follows m (armed v k w) (arming v x.number l)
    arms nothing k x i ok = h
    arms late k x i ok = waits_changed _ _ _ (undoes k x i)
    arms effect k x i ok =
        let e : Entry ℕ = record { key = s.clock; load = k } in
        let d : Entry ℕ = record { key = l.clock; load = x.number } in
        let r : Stands s.slots e d = record { when = sym h.clock; soon = h.early; slide = x; slot = i; number = refl } in
        let one = shown_more (e ∷ []) (d ∷ []) (more r none) in
        record {
          clock = h.clock;
          early = h.early;
          framed = h.framed;
          waits = undoes k x i;
          knows = h.knows;
          display = one.0;
          accepted = one.1;
        }
    arms (wait t) k x i ok =
        waits_changed _ _ _
        (both_shelved (Stands s.slots) (record { key = t; load = k }) (record { key = t; load = x.number }) (λ a b r. r.when)
        (record { when = refl; soon = ok t refl; slide = x; slot = i; number = refl }) (undoes k x i))

  -- the slide in slot k is sent again: the ledger sees nothing of that
  pub resends : (w : World) (l : Ledger) → Sound w.state → Follows m w l → (k t : ℕ) (x : Slide) → slot_at w.state k ≡ held x → k < 12 → Follows m (with_state (resent k t w.state) w) l
  resends w l sound h k t x i lt =
      let s : State = w.state in
      let u : World = with_state (vacate (comes t) s) w in
      let sound' : Sound u.state = sound_vacate (comes t) s sound in
      let g : Follows m u l = subst (Follows m u) (none_leave l) (vacated w l sound h (comes t) (λ y. false) (λ a y p q. refl)) in
      subst (λ v. Follows m (with_state v w) l) (sym (resent_is s k t x i lt sound))
      (under u l sound' g k t x (still_held s k t x i lt sound) (omega (arith, sound'.twelve, lt)))
