-- The ledger follows the receiver through every call.
use Rattle.std.proofs.Common.{◌≡◌, ℕ, zero, suc, ◌+◌, ◌-◌, ◌*◌, ◌^◌, ◌<◌, ◌≤◌, Bool, true, false, cond, not, ◌||◌, eqb, ltb, leb, List, [], ◌∷◌, ◌++◌, length, get_or, take, drop, set, Some, None, Ok, Err, filter, Option, Result, sym, refl, ap, ◌∙◌, subst, subst₂, inl, inr, arith}
use mathlib.Core.Path.{subst₃, fun_ext}
use lib.Bits.{bit_or}
use Rattle.datagroup.specs.Groups as groups
use Rattle.datagroup.specs.Groups.{Group, group_of}
use Rattle.display.specs.Meaning.{Meaning, Keeps}
use Rattle.header.proofs.Facts.{header_sound}
use Rattle.header.proofs.Laws.{Passed, cored, passed_to}
use Rattle.header.proofs.Moments.{read_in_time}
use Rattle.header.specs.Cores.{body_fits, core_in}
use Rattle.header.specs.Headers.{HeaderRecord, header_of, and_then, demand, read_with}
use Rattle.header.specs.Names.{NameRecord, same_name}
use Rattle.header.specs.Sound as headers
use Rattle.header.specs.Sound.{InTime}
use Rattle.header.specs.declared.kinds.Category.{Category}
use Rattle.header.specs.declared.kinds.Kind.{Kind}
use Rattle.header.specs.declared.kinds.Kind.TheVariants.{Image, Update}
use Rattle.moment.specs.Field.{time_of}
use Rattle.moment.specs.declared.times.Time.{Time}
use Rattle.moment.specs.declared.times.Time.TheVariants.{Now, At}
use Rattle.packed.proofs.Overwritten.{length_pasted, below_pasted, above_pasted}
use Rattle.packed.specs.Bits.{whole}
use Rattle.packed.specs.Parts.{pasted}
use Rattle.refusal.specs.declared.Fault.{Fault}
use Rattle.refusal.specs.declared.causes.Cause.TheVariants.{HeaderCut, BodyMemoryMisfit}
use Rattle.rules.specs.Assembly.{put, received, filed, told_filing, on_landing, segment_of, segment_step}
use Rattle.rules.specs.Calls.{Call, header, segment, group, time, find_name, next_place, body_of, card, card_byte, slot_size, Reply, answered, counted}
use Rattle.rules.specs.Clocks.{prepared, expired, tick, walk, walked, set_to, on_setting, on_reading, setting_step, reading_step, time_step}
use Rattle.rules.specs.Effects.{filed_effects, tick_effects, walk_effects}
use Rattle.rules.specs.Groups.{on_group, group_step}
use Rattle.rules.specs.Headers.{receiver_fault, slot_for, begun, image_step, told_update, recategorised, update_step, by_kind, on_header, header_step, idle, resent, amended}
use Rattle.rules.specs.Ledgers.{Ledger, Known, body_in, leave, happen, instant, pass, start, arming, noted, kept, with_piece, filed_in, said, on_said, known_from, grouped, on_answer, on_counted, moved_to, entered, blank, ledger}
use Rattle.rules.specs.Runs.{opened, after, replies, step}
use Rattle.rules.specs.Soundness.{Sound, SlotSound}
use Rattle.rules.specs.Triggers.{Verdict, nothing, effect, late, wait, verdict}
use Rattle.rules.specs.Worlds.{State, World, slot_at, with_state, fits_memory, vacate, fire, armed, categorised}
use Rattle.slots.specs.Pieces.{part}
use Rattle.rules.specs.declared.answers.Answer.{Answer}
use Rattle.rules.specs.declared.answers.Answer.TheVariants.{Refused}
use Rattle.shelf.specs.declared.entries.Entry.{Entry}
use Rattle.slots.proofs.Numbers.{has_none}
use Rattle.slots.specs.Searches.{first_slot}
use Rattle.slots.specs.Segments.{has, fits, offset, piece_with, last_with, landing, grown, complete}
use Rattle.slots.specs.Slides as slides
use Rattle.slots.specs.Slides.{Slot, free, arriving, held, Object, Slide, arrival, slide_of, with_progress, image_of, resent_slide, comes, named, versioned, comes_again, sent_under, ends, passed, number_in}
use Rattle.slots.specs.declared.progress.Landing.{Landing}
use Rattle.slots.specs.declared.progress.Landing.TheVariants.{At}
use Rattle.slots.specs.declared.progress.Segment.{Segment}
use Rattle.std.proofs.lemmas.List.{append-nil, append_assoc, drop-take, length-set, get_or-set_same, get_or-set_other}
use Rattle.std.proofs.lemmas.Bool.{cond_both, cases_lt, eqb-true, eqb-false, leb-true, ltb-false, le-leb, ne_eqb, eq-eqb, and_parts, or_parts, both_ways, not-true}
use Rattle.std.specs.Result.{result_ok}
use Rattle.rules.proofs.Finds.{found_at, on_some_both, on_arriving_both}
use Rattle.rules.proofs.Follows.{newest, Stands, Comes, Knows, Follows, timed, vacated, fired, later_only, categories_changed, arms, resends, arming_told, due_told}
use Rattle.rules.proofs.Pairs.{Both, none, more}
use Rattle.rules.proofs.Passes.{getD_vacate}
use Rattle.slots.proofs.Pieces.{Piece, Pieces, Fits, fit, tight_inside, next_piece, added, completed}
use Rattle.rules.proofs.Readings.{walk_clock}
use Rattle.rules.proofs.Choices.{slot_for_some, idle_undone}
use Rattle.rules.proofs.Kept.{sound_step, sound_recategorised, recategorised_slot, held_named, held_versioned, versioned_within, all_free}
use Rattle.rules.proofs.Sounds.{placed_state, at_set, sound_vacate, sound_filtered, sound_walk, sound_received, sound_filed, sound_categorised, resent_slot, sound_resent}

-- parts of memory beside a write
part_is : (a k : ℕ) (m : List ℕ) → part a k m ≡ drop a (take (a + k) m)
part_is a k m = sym (drop-take a k m)

part_below : (at : ℕ) (m bs : List ℕ) (a k : ℕ) → at + length bs ≤ length m → a + k ≤ at → part a k (pasted m at bs) ≡ part a k m
part_below at m bs a k room h = part_is a k (pasted m at bs) ∙ (ap (drop a) (below_pasted m at bs room (a + k) h) ∙ sym (part_is a k m))

part_above : (at : ℕ) (m bs : List ℕ) (a k : ℕ) → at + length bs ≤ length m → at + length bs ≤ a → part a k (pasted m at bs) ≡ part a k m
part_above at m bs a k room h = ap (take k) (above_pasted m at bs room a h)

-- what is known of a slot's slide rests on its part of the memory alone
same_memory : (base S c g : ℕ) (m m' : List ℕ) (y : Known) (x : Slot) → length m' ≡ length m → ((a k : ℕ) → base ≤ a → a + k ≤ base + S → part a k m' ≡ part a k m) → SlotSound c g S x → Knows base S m y x → Knows base S m' y x
same_memory base S c g m m' y free e i ok h = tt
same_memory base S c g m m' y (held x) e i ok h =
    record {
      name = h.name;
      expire = h.expire;
      there = omega (arith, h.there);
      body = h.body ∙ sym (i base x.size (omega arith) (omega (arith, ok.3)));
    }
same_memory base S c g m m' y (arriving o) e i ok h =
    record {
      name = h.name;
      expire = h.expire;
      trigger = h.trigger;
      timely = h.timely;
      there = omega (arith, h.there);
      p = h.p;
      sized = h.sized;
      unsized = h.unsized;
      pieces =
          record {
            absent = h.pieces.absent;
            each = λ j t.
                let x : Piece base h.p o.progress.size m o.progress.last j (y.pieces j) = h.pieces.each j t in
                record {
                  lies = i (base + j * h.p) (length (y.pieces j)) (omega arith) (omega (arith, x.inside, ok.3, ok.4)) ∙ x.lies;
                  some = x.some;
                  within = x.within;
                  inside = x.inside;
                  small = x.small;
                  whole = x.whole;
                  ending = x.ending;
                };
            known = h.pieces.known;
          };
    }

idles : (xs : List Slot) (k : ℕ) (ws vs : List (Entry ℕ)) → idle ws k ≡ true → Both (Stands xs) ws vs → (x : Slot) → Both (Stands (set xs k x)) ws vs
idles xs k ws vs i none x = none
idles xs k ws vs i (more {x = w} {y = v} {xs = ws'} {ys = vs'} r h) x =
    let t = and_parts (not (eqb w.load k)) (idle ws' k) i in
    let d : w.load ≡ k → ⊥ = eqb-false w.load k (not-true (eqb w.load k) t.0) in
    more
    (record { when = r.when; soon = r.soon; slide = r.slide; slot = get_or-set_other xs k w.load x free d ∙ r.slot; number = r.number })
    (idles xs k ws' vs' t.1 h x)

-- a number that nobody else has
noted_same : (n : ℕ) (l : Ledger) → noted n (l.known n) l ≡ l
noted_same n l = λ t. record { clock = l.clock; known = fun_ext same t; waiting = l.waiting; history = l.history }
  where
    same : (i : ℕ) → cond (eqb i n) (l.known n) (l.known i) ≡ l.known i
    same i = cond_both (eqb i n) (l.known n) (l.known i) (λ y. y ≡ l.known i) (λ e. ap l.known (sym (eqb-true i n e))) (λ e. refl)

module _ (m : Meaning) (keeps : Keeps m) where
  module _ (w : World) (l : Ledger) (sound : Sound w.state) (h : Follows m w l) where
    abbrev s : State
    s = w.state

    abbrev S : ℕ
    S = w.state.room

    -- slot k, which nothing waits for, comes to hold x, whose number no other slot has
    placed : (k : ℕ) (x : Slot) (mem : List ℕ) (g r : ℕ) (ps : List (Entry (ℕ × ℕ))) (y : Known) → k < length s.slots → idle s.waiting k ≡ true → ((j : ℕ) → (j ≡ k → ⊥) → number_in (slot_at s j) ≡ number_in x → ⊥) → length mem ≡ length w.memory → ((j : ℕ) → (j ≡ k → ⊥) → (a n : ℕ) → j * S ≤ a → a + n ≤ j * S + S → part a n mem ≡ part a n w.memory) → Knows (k * S) S mem y x → Follows m (record { state = placed_state k x g r s.waiting ps s; memory = mem; display = w.display }) (noted (number_in x) y l)
    placed k x mem g r ps y lt i own lm other kn =
        record {
          clock = h.clock;
          early = h.early;
          framed = h.framed;
          waits = idles s.slots k s.waiting l.waiting i h.waits x;
          knows = λ j.
              let P : Slot → Type 0 = λ z.
              Knows (j * S) S mem (cond (eqb (number_in z) (number_in x)) y (l.known (number_in z))) z in
              elim (at_set s.slots k x lt j) [
                | inl t ↦ subst P (sym t.1) (rw (eq-eqb (number_in x) (number_in x) refl, t.0) kn)
                | inr t ↦
                    subst P (sym t.1)
                    (rw (ne_eqb (number_in (slot_at s j)) (number_in x) (own j t.0))
                    (same_memory (j * S) S s.clock s.given w.memory mem (l.known (number_in (slot_at s j))) (slot_at s j) lm (other j t.0) (sound.slot_sound j) (h.knows j)))
              ];
          display = h.display;
          accepted = h.accepted;
        }

    -- nothing waits for a slot that holds no slide
    unheld_idle : (xs : List Slot) (k : ℕ) → ((x : Slide) → get_or xs k free ≡ held x → ⊥) → (ws vs : List (Entry ℕ)) → Both (Stands xs) ws vs → idle ws k ≡ true
    unheld_idle xs k i ws vs none = refl
    unheld_idle xs k i ws vs (more {x = a} {y = b} {xs = ws'} {ys = vs'} r q) =
        let d : a.load ≡ k → ⊥ = λ e. i r.slide (ap (λ j. get_or xs j free) (sym e) ∙ r.slot) in
        rw (ne_eqb a.load k d) (unheld_idle xs k i ws' vs' q)

    arriving_idle : (k : ℕ) (o : Object) → slot_at s k ≡ arriving o → idle s.waiting k ≡ true
    arriving_idle k o i =
        unheld_idle s.slots k (λ x e. let q : arriving o ≡ held x = sym i ∙ e in let z : ◌≡◌ {A = ℕ} 0 1 = cc in omega arith) s.waiting l.waiting h.waits

    coming : (k : ℕ) (o : Object) → slot_at s k ≡ arriving o → Comes (k * S) S w.memory (l.known o.number) o
    coming k o i = subst (λ x. Knows (k * S) S w.memory (l.known (number_in x)) x) i (h.knows k)

    object_sound : (k : ℕ) (o : Object) → slot_at s k ≡ arriving o → SlotSound s.clock s.given S (arriving o)
    object_sound k o i = subst (SlotSound s.clock s.given S) i (sound.slot_sound k)

    alone : (k : ℕ) (o : Object) → slot_at s k ≡ arriving o → (j : ℕ) → (j ≡ k → ⊥) → number_in (slot_at s j) ≡ o.number → ⊥
    alone k o i j d e =
        let z : number_in (slot_at s k) ≡ o.number = ap number_in i in
        d (sym (sound.numbers_distinct k j (omega (arith, z, (object_sound k o i).0)) (z ∙ sym e)))

    -- a header that is taken
    heads : (k t : ℕ) (i : slides.Image) (x : Known) → slot_for s t ≡ Some k → fits_memory w ≡ true → 0 < i.size → i.size ≤ S → InTime i.trigger → x.name ≡ i.name → x.expire ≡ i.expire → x.trigger ≡ i.trigger → ((j : ℕ) → x.pieces j ≡ []) → Follows m (with_state (begun k t i s) w) (noted (suc s.given) x l)
    heads k t i x q fm po le ti en ee et ep =
        let c = slot_for_some s t k sound q in
        let lt : k < length s.slots = omega (arith, c.0, sound.twelve) in
        let long : length w.memory ≡ 12 * S = eqb-true _ _ fm in
        let fresh : (j : ℕ) → (j ≡ k → ⊥) → number_in (slot_at s j) ≡ suc s.given → ⊥ = λ j d e. omega (arith, below j) in
        let body = placed k (arriving (arrival t (suc s.given) i)) w.memory (suc s.given) k
        (filter (λ e. not (slides.numbered e.load (slot_at s k))) s.places) x lt c.1 fresh refl (λ j d a n u v. refl)
        (record {
          name = en;
          expire = ee;
          trigger = et;
          timely = ti;
          there = omega (arith, next_piece k 12 S c.0);
          p = 0;
          sized = λ q z. cc;
          unsized = λ z. refl;
          pieces =
              record {
                absent = λ j z. ep j;
                each = λ j z. absurd (both_ways (has j 0) (has_none j) z);
                known = λ j z. absurd (let y : ◌≡◌ {A = ℕ} 0 1 = cc in omega arith);
              };
        }) in
        subst (λ ws. Follows m (record { state = placed_state k (arriving (arrival t (suc s.given) i)) (suc s.given) k ws (filter (λ e. not (slides.numbered e.load (slot_at s k))) s.places) s; memory = w.memory; display = w.display }) (noted (suc s.given) x l)) (sym (idle_undone s k c.1)) body
      where
        below : (j : ℕ) → number_in (slot_at s j) ≤ s.given
        below j = go (slot_at s j) (sound.slot_sound j)
          where
            go : (z : Slot) → SlotSound s.clock s.given S z → number_in z ≤ s.given
            go free ok = omega arith
            go (arriving o) ok = ok.1
            go (held y) ok = ok.1

    -- a segment that fits is taken
    pub segments : (k : ℕ) (o : Object) → slot_at s k ≡ arriving o → k < length s.slots → (n : ℕ) (last : Bool) (bs : List ℕ) → n < 64 → 0 < length bs → has n o.progress.taken ≡ false → fits o.progress.piece o.progress.size n last (length bs) ≡ true → Follows m (received k o (segment_of n last bs) (offset o.progress.size n last (length bs)) bs w) (kept o.number n bs l) × (complete (grown o.progress (segment_of n last bs)) ≡ true → body_in (with_piece n bs (l.known o.number)) ≡ part (k * S) o.progress.size (pasted w.memory (k * S + offset o.progress.size n last (length bs)) bs))
    unfolding body_in
    segments k o i lt n last bs small some new ok =
        let C = coming k o i in
        let O = object_sound k o i in
        let B : ℕ = o.progress.size in
        let F : Fits o.progress.piece B n last (length bs) = fit o.progress.piece B n last (length bs) ok in
        let base : ℕ = k * S in
        let y : Known = l.known o.number in
        let q : ℕ = piece_with B n last (length bs) in
        let P : Pieces base q B w.memory o.progress.last o.progress.taken y.pieces =
        record {
          absent = C.pieces.absent;
          each = λ j t.
              subst (λ x. Piece base x B w.memory o.progress.last j (y.pieces j)) (moved C F j t o.progress.piece refl) (C.pieces.each j t);
          known = C.pieces.known;
        } in
        let in' : n * q + length bs ≤ B = tight_inside last B n (length bs) q F.tight in
        let all : base + S ≤ length w.memory = C.there in
        let fi : B ≤ S = omega (arith, O.3, O.4) in
        let A : Pieces base q B (pasted w.memory (base + n * q) bs) (last_with o.progress.last n last) (bit_or o.progress.taken (2 ^ n)) (λ j. cond (eqb j n) bs (y.pieces j)) =
        added base q B w.memory o.progress.last o.progress.taken y.pieces P n last bs new some F.within small F.tight (omega arith) in
        let off : offset B n last (length bs) ≡ n * q = F.off in
        let mem : List ℕ = pasted w.memory (base + offset B n last (length bs)) bs in
        let A' : Pieces base q B mem (last_with o.progress.last n last) (bit_or o.progress.taken (2 ^ n)) (λ j. cond (eqb j n) bs (y.pieces j)) =
        subst (λ z. Pieces base q B (pasted w.memory (base + z) bs) (last_with o.progress.last n last) (bit_or o.progress.taken (2 ^ n)) (λ j. cond (eqb j n) bs (y.pieces j))) (sym off) A in
        let a : ℕ = base + offset B n last (length bs) in
        let e1 : a + length bs ≤ base + S = omega arith in
        let e2 : a + length bs ≤ length w.memory = omega arith in
        let g : Segment = segment_of n last bs in (
          placed k (arriving (with_progress o (grown o.progress g))) mem s.given s.recent s.places (with_piece n bs y) lt (arriving_idle k o i) (alone k o i) (length_pasted w.memory a bs e2)
              (λ j d x z lo hi.
              elim (cases_lt j k) [
                | inl b ↦ part_below a w.memory bs x z e2 (omega (arith, next_piece j k S b))
                | inr b ↦
                    let b' : k < j = omega (arith, d) in
                    part_above a w.memory bs x z e2 (omega (arith, next_piece k j S b'))
              ])
              (record {
                name = C.name;
                expire = C.expire;
                trigger = C.trigger;
                timely = C.timely;
                there = omega (arith, length_pasted w.memory a bs e2);
                p = q;
                sized = λ p z. cc;
                unsized = λ z. absurd (let u : ◌≡◌ {A = ℕ} 0 1 = cc in omega arith);
                pieces = A';
              }),
          λ t. completed base q B mem (last_with o.progress.last n last) (bit_or o.progress.taken (2 ^ n)) _ A' t,
        )
      where
        moved : (C : Comes (k * S) S w.memory (l.known o.number) o) (F : Fits o.progress.piece o.progress.size n last (length bs)) (j : ℕ) → has j o.progress.taken ≡ true → (p : Option ℕ) → o.progress.piece ≡ p → C.p ≡ piece_with o.progress.size n last (length bs)
        moved C F j t None e = absurd (both_ways (has j o.progress.taken) (ap (has j) (C.unsized e) ∙ has_none j) t)
        moved C F j t (Some p) e = sym (C.sized p e) ∙ F.same p e

  -- a body that is all there is filed: the held slide of its name leaves
  pub files : (w : World) (l : Ledger) → Sound w.state → Follows m w l → (k : ℕ) (o : Object) → slot_at w.state k ≡ arriving o → k < length w.state.slots → body_in (l.known o.number) ≡ part (k * w.state.room) o.progress.size w.memory → Follows m (with_state (put k (held (slide_of o)) (vacate (named o.image.name) w.state)) w) (leave (λ y. same_name y.name o.image.name) l)
  files w l sound h k o i lt b =
      let s : State = w.state in
      let S : ℕ = s.room in
      let C = coming w l sound h k o i in
      let O = object_sound w l sound h k o i in
      let N : ℕ = o.number in
      let a : NameRecord = o.image.name in
      let u : State = vacate (named a) s in
      let w' : World = with_state u w in
      let l' : Ledger = leave (λ y. same_name y.name a) l in
      let g : Follows m w' l' = vacated m keeps w l sound h (named a) (λ y. same_name y.name a) (λ x y p q. ap (λ z. same_name z a) (sym p)) in
      let sound' : Sound u = sound_vacate (named a) s sound in
      let i' : slot_at u k ≡ arriving o = getD_vacate (named a) s.slots k ∙ ap (λ x. cond (named a x) free x) i in
      let lt' : k < length u.slots = omega (arith, sound.twelve, sound'.twelve) in
      let e : o.progress.size ≡ o.image.size = O.4 in
      let x : Follows m (with_state (put k (held (slide_of o)) u) w) (noted N (l.known N) l') =
      placed w' l' sound' g k (held (slide_of o)) w.memory s.given s.recent u.places (l.known N) lt' (arriving_idle w' l' sound' g k o i') (alone w' l' sound' g k o i') refl (λ j d x y p q. refl)
      (record {
        name = C.name;
        expire = C.expire;
        there = C.there;
        body = b ∙ ap (λ n. part (k * S) n w.memory) e;
      }) in
      subst (λ z. Follows m (with_state (put k (held (slide_of o)) u) w) z) (noted_same N l') x

  -- and its category is set
  pub filing : (w : World) (l : Ledger) → Sound w.state → Follows m w l → (k : ℕ) (o : Object) → slot_at w.state k ≡ arriving o → k < length w.state.slots → body_in (l.known o.number) ≡ part (k * w.state.room) o.progress.size w.memory → let v' : World = categorised o.image.category o.number (with_state (put k (held (slide_of o)) (vacate (named o.image.name) w.state)) w) in Follows m v' (leave (λ y. same_name y.name o.image.name) l) × Sound v'.state × (slot_at v'.state k ≡ held (slide_of o))
  filing w l sound h k o i lt b =
      let s : State = w.state in
      let a : NameRecord = o.image.name in
      let t : State = put k (held (slide_of o)) (vacate (named a) s) in
      let v : World = with_state t w in
      let l' : Ledger = leave (λ y. same_name y.name a) l in
      let g : Follows m v l' = files w l sound h k o i lt b in
      let sound' : Sound t = sound_filed k o s i sound in
      let lt' : k < length (vacate (named a) s).slots = omega (arith, sound.twelve, (sound_vacate (named a) s sound).twelve) in
      let j : slot_at t k ≡ held (slide_of o) = get_or-set_same (vacate (named a) s).slots k (held (slide_of o)) free lt' in
      (categories_changed m keeps v l' sound' g o.image.category o.number, sound_categorised o.image.category k v (slide_of o) j sound', j)

  -- and its trigger is armed
  filings : (w : World) (l : Ledger) → Sound w.state → Follows m w l → (k : ℕ) (o : Object) → slot_at w.state k ≡ arriving o → k < length w.state.slots → body_in (l.known o.number) ≡ part (k * w.state.room) o.progress.size w.memory → Follows m (filed k o w) (filed_in o.number l)
  filings w l sound h k o i lt b =
      let s : State = w.state in
      let C = coming w l sound h k o i in
      let N : ℕ = o.number in
      let r = filing w l sound h k o i lt b in
      let v' : World = categorised o.image.category N (with_state (put k (held (slide_of o)) (vacate (named o.image.name) s)) w) in
      let l' : Ledger = leave (λ y. same_name y.name o.image.name) l in
      let z = arms m keeps v' l' r.1 r.0 (verdict s.clock o.image.trigger) k (slide_of o) r.2 (λ n q. timed s.clock o.image.trigger n C.timely q) in
      let P : ℕ → NameRecord → Option Time → Type 0 = λ x b r. Follows m (filed k o w) (arming (verdict x r) N (leave (λ y. same_name y.name b) l)) in
      subst₃ P (sym h.clock) (sym C.name) (sym C.trigger) z

  pub filing_told : (w : World) (l : Ledger) → Sound w.state → Follows m w l → (k : ℕ) (o : Object) → slot_at w.state k ≡ arriving o → k < length w.state.slots → body_in (l.known o.number) ≡ part (k * w.state.room) o.progress.size w.memory → (filed_in o.number l).history ≡ l.history ++ filed_effects k o w
  filing_told w l sound h k o i lt b =
      let s : State = w.state in
      let C = coming w l sound h k o i in
      let N : ℕ = o.number in
      let r = filing w l sound h k o i lt b in
      let v' : World = categorised o.image.category N (with_state (put k (held (slide_of o)) (vacate (named o.image.name) s)) w) in
      let l' : Ledger = leave (λ y. same_name y.name o.image.name) l in
      let z = arming_told m keeps v' l' r.1 r.0 (verdict s.clock o.image.trigger) k (slide_of o) r.2 in
      let P : ℕ → NameRecord → Option Time → Type 0 = λ x b r. (arming (verdict x r) N (leave (λ y. same_name y.name b) l)).history ≡ l.history ++ filed_effects k o w in
      subst₃ P (sym h.clock) (sym C.name) (sym C.trigger) z

  -- one moment after the other
  ticks : (n : ℕ) (w : World) (l : Ledger) → w.state.clock + n ≤ newest → Sound w.state → Follows m w l → Follows m (walk n w) (pass n l)
  unfolding tick instant
  ticks zero w l ok sound h = h
  ticks (suc n) w l ok sound h =
      let u : World = walk n w in
      let k : Ledger = pass n l in
      let g : Follows m u k = ticks n w l (omega arith) sound h in
      let sound' : Sound u.state = sound_walk n w sound in
      let t : ℕ = suc u.state.clock in
      let z : u.state.clock ≡ w.state.clock + n = walk_clock n w in
      let e : Follows m (expired t u) (leave (λ y. passed t y.expire) k) = vacated m keeps u k sound' g (ends t) (λ y. passed t y.expire) (λ x y p q. ap (passed t) (sym q)) in
      let P : ℕ → Type 0 = λ x. Follows m (tick u) (happen (suc x) (leave (λ y. passed (suc x) y.expire) k)) in
      subst P (sym g.clock) (fired m keeps (expired t u) (leave (λ y. passed t y.expire) k) (sound_vacate (ends t) u.state sound') e t (omega (arith, z)))

  pub ticks_told : (n : ℕ) (w : World) (l : Ledger) → w.state.clock + n ≤ newest → Sound w.state → Follows m w l → (pass n l).history ≡ l.history ++ walk_effects n w
  unfolding tick_effects instant
  ticks_told zero w l ok sound h = sym (append-nil l.history)
  ticks_told (suc n) w l ok sound h =
      let u : World = walk n w in
      let k : Ledger = pass n l in
      let g : Follows m u k = ticks n w l (omega arith) sound h in
      let sound' : Sound u.state = sound_walk n w sound in
      let t : ℕ = suc u.state.clock in
      let e : Follows m (expired t u) (leave (λ y. passed t y.expire) k) = vacated m keeps u k sound' g (ends t) (λ y. passed t y.expire) (λ x y p q. ap (passed t) (sym q)) in
      let P : ℕ → Type 0 = λ x. (happen (suc x) (leave (λ y. passed (suc x) y.expire) k)).history ≡ k.history ++ tick_effects u in
      subst P (sym g.clock) (due_told m keeps (expired t u) (leave (λ y. passed t y.expire) k) (sound_vacate (ends t) u.state sound') e t)
      ∙ (ap (λ es. es ++ tick_effects u) (ticks_told n w l (omega arith) sound h) ∙ append_assoc l.history (walk_effects n w) (tick_effects u))

  -- a call is followed by its answer
  abbrev Goes : Ledger → Call → Reply × World → Type 0
  Goes l c o = Follows m o.1 (entered l c o.0)

  on_told_filing : (v : Verdict) (n : ℕ) (w : World) (l : Ledger) (p q : ℕ → Ledger) → Follows m w (q n) → Follows m w (on_answer (told_filing v n) l p q)
  on_told_filing nothing n w l p q h = h
  on_told_filing effect n w l p q h = h
  on_told_filing late n w l p q h = h
  on_told_filing (wait t) n w l p q h = h

  on_told_update : (v : Verdict) (n : ℕ) (w : World) (l : Ledger) (p q : ℕ → Ledger) → Follows m w (q n) → Follows m w (on_answer (told_update v n) l p q)
  on_told_update nothing n w l p q h = h
  on_told_update effect n w l p q h = h
  on_told_update late n w l p q h = h
  on_told_update (wait t) n w l p q h = h

  pub recategorises : (c : Option Category) (n : ℕ) (w : World) (l : Ledger) → Sound w.state → Follows m w l → Follows m (recategorised c n w) l
  recategorises None n w l sound h = h
  recategorises (Some c) n w l sound h = categories_changed m keeps w l sound h (slides.real_category c) n

  -- a header says the same whatever the slot size, if it fits
  pub wider : (xs : List ℕ) (a b : ℕ) (x : HeaderRecord) → a ≤ b → header_of xs a ≡ Ok x → header_of xs b ≡ Ok x
  unfolding header_of
  wider xs a b x le e =
      let (l, p) = cored xs a x e in
      let q : Passed (core_in (whole (take 7 xs))) (length xs) (drop 7 xs) b x =
      record { kind = p.kind; name = p.name; found = p.found; sized = p.sized; kind_is = p.kind_is; fits = fitting p.kind _ p.fits; ran = p.ran; named = p.named; effect = p.effect; is = p.is } in
      ap (λ (t : Bool). and_then (demand t HeaderCut) (λ u. read_with (core_in (whole (take 7 xs))) (length xs) (drop 7 xs) b)) (le-leb 7 (length xs) l)
      ∙ passed_to (core_in (whole (take 7 xs))) (length xs) (drop 7 xs) b x q
    where
      fitting : (k : Kind) (n : ℕ) → body_fits k n a ≡ true → body_fits k n b ≡ true
      fitting Image n t = let u = and_parts (ltb 0 n) (leb n a) t in rw u.0 (le-leb n b (omega (arith, leb-true n a u.1)))
      fitting Update n t = t

  quiet : (r : Result HeaderRecord Fault) (w : World) (l : Ledger) → Follows m w l → Follows m w (on_said r l (λ x. l))
  quiet (Err e) w l h = h
  quiet (Ok x) w l h = h

  -- a held slide is amended
  amends : (w : World) (l : Ledger) (t : ℕ) (xs : List ℕ) (k : ℕ) (x : HeaderRecord) (y : Slide) → Sound w.state → Follows m w l → slot_at w.state k ≡ held y → said xs ≡ Ok x → InTime x.trigger → Goes l (header t xs) (answered (amended k x w).0, (amended k x w).1)
  unfolding entered
  amends w l t xs k x y sound h i said-x ti =
      let n : ℕ = number_in (slot_at w.state k) in
      let e : n ≡ y.number = ap number_in i in
      let v : Verdict = verdict w.state.clock x.trigger in
      let w' : World = recategorised x.category n w in
      let sound' : Sound w'.state = sound_recategorised x.category k w y i sound in
      let g : Follows m (armed v k w') (arming v y.number l) =
      arms m keeps w' l sound' (recategorises x.category n w l sound h) v k y (recategorised_slot x.category n w k ∙ i) (λ d q. timed w.state.clock x.trigger d ti q) in
      let g' : Follows m (armed v k w') (arming (verdict l.clock x.trigger) n l) =
      subst₂ (λ c j. Follows m (armed v k w') (arming (verdict c x.trigger) j l)) (sym h.clock) (sym e) g in
      subst (λ r. Follows m (armed v k w') (on_said r l (λ u. on_answer (told_update v n) l (λ j. noted j (known_from u) l) (λ j. arming (verdict l.clock u.trigger) j l)))) (sym said-x)
      (on_told_update v n (armed v k w') l _ _ g')

  -- an image
  images : (w : World) (l : Ledger) (t : ℕ) (xs : List ℕ) (x : HeaderRecord) → Sound w.state → Follows m w l → fits_memory w ≡ true → said xs ≡ Ok x → headers.Sound w.state.room x → x.kind ≡ Image → Goes l (header t xs) (answered (image_step w t x).0, (image_step w t x).1)
  unfolding entered
  images w l t xs x sound h fm said-x ok kind =
      let P : Answer × World → Type 0 = λ o. Follows m o.1 (entered l (header t xs) (answered o.0)) in
      let q = quiet (said xs) w l h in
      let body = subst (λ k. headers.Body k x.body_size w.state.room) kind ok.body in
      on_some_both P (first_slot (versioned x.name (image_of x).version) w.state.slots) _ _
      (on_some_both P (first_slot (comes_again t (image_of x)) w.state.slots) _ _
      (cond_both (passed w.state.clock x.expire) _ _ P (λ e. q)
      (λ e.
      cond_both (eqb w.state.given 4294967295) _ _ P (λ d. q)
      (λ d.
      on_some_both P (slot_for w.state t) _ _ q
      (λ k z.
      subst (λ r. Follows m (with_state (begun k t (image_of x) w.state) w) (on_said r l (λ y. noted (suc w.state.given) (known_from y) l))) (sym said-x)
      (heads w l sound h k t (image_of x) (known_from x) z fm body.0 body.1 ok.trigger refl refl refl (λ j. refl))))))
      (λ k z. q))
      (λ k z.
      let (y, i) = held_versioned w.state x.name (image_of x).version k z in
      let lt : k < 12 = versioned_within w.state x.name (image_of x).version k sound z in
      cond_both (sent_under t (slot_at w.state k)) _ _ P (λ e. q)
      (λ e.
      cond_both (passed w.state.clock x.expire) _ _ P (λ d. q)
      (λ d.
      amends (with_state (resent k t w.state) w) l t xs k x (resent_slide t y) (sound_resent w.state k t y i lt sound) (resends m keeps w l sound h k t y i lt) (resent_slot w.state k t y i lt sound) said-x ok.trigger)))

  -- an update
  updates : (w : World) (l : Ledger) (t : ℕ) (xs : List ℕ) (x : HeaderRecord) → Sound w.state → Follows m w l → said xs ≡ Ok x → headers.Sound w.state.room x → Goes l (header t xs) (answered (update_step w x).0, (update_step w x).1)
  unfolding entered
  updates w l t xs x sound h said-x ok =
      let P : Answer × World → Type 0 = λ o. Follows m o.1 (entered l (header t xs) (answered o.0)) in
      on_some_both P (first_slot (named x.name) w.state.slots) _ _ (quiet (said xs) w l h)
      (λ k z. let (y, i) = held_named w.state x.name k z in amends w l t xs k x y sound h i said-x ok.trigger)

  headed : (w : World) (l : Ledger) (t : ℕ) (xs : List ℕ) → Sound w.state → Follows m w l → Goes l (header t xs) (answered (header_step w t xs).0, (header_step w t xs).1)
  unfolding header_step entered
  headed w l t xs sound h =
      let P : Answer × World → Type 0 = λ o. Follows m o.1 (entered l (header t xs) (answered o.0)) in
      cond_both (fits_memory w) _ _ P (λ fm. go (header_of xs w.state.room) refl fm) (λ fm. quiet (said xs) w l h)
    where
      kinds : (x : HeaderRecord) → header_of xs w.state.room ≡ Ok x → fits_memory w ≡ true → (k : Kind) → x.kind ≡ k → Goes l (header t xs) (answered (by_kind k w t x).0, (by_kind k w t x).1)
      kinds x e fm Image kind = images w l t xs x sound h fm (wider xs w.state.room (2 ^ 28) x (omega (arith, h.framed, keeps.frame_small)) e) (header_sound xs w.state.room x e) kind
      kinds x e fm Update kind = updates w l t xs x sound h (wider xs w.state.room (2 ^ 28) x (omega (arith, h.framed, keeps.frame_small)) e) (header_sound xs w.state.room x e)

      go : (r : Result HeaderRecord Fault) → header_of xs w.state.room ≡ r → fits_memory w ≡ true → Goes l (header t xs) (answered (on_header r w t).0, (on_header r w t).1)
      go (Err e) i fm = quiet (said xs) w l h
      go (Ok x) i fm = kinds x i fm x.kind refl

  -- a segment
  lands : (w : World) (l : Ledger) (t n : ℕ) (last : Bool) (xs : List ℕ) → Sound w.state → Follows m w l → (k : ℕ) (o : Object) → slot_at w.state k ≡ arriving o → k < length w.state.slots → let g : Segment = segment_of n last xs in Goes l (segment t n last xs) (answered (on_landing (landing o.progress g) k o g xs w).0, (on_landing (landing o.progress g) k o g xs w).1)
  unfolding entered
  lands w l t n last xs sound h k o i lt =
      let g : Segment = segment_of n last xs in
      let p = o.progress in
      let P : Landing → Type 0 = λ a. Goes l (segment t n last xs) (answered (on_landing a k o g xs w).0, (on_landing a k o g xs w).1) in
      cond_both (ltb 63 n || eqb (length xs) 0) _ _ P (λ e. h)
      (λ e.
      let b = or_parts (ltb 63 n) (eqb (length xs) 0) e in
      cond_both (has n p.taken) _ _ P (λ d. h)
      (λ d.
      cond_both (fits p.piece p.size n last (length xs)) _ _ P
      (λ c.
      let r = segments w l sound h k o i lt n last xs (omega (arith, ltb-false 63 n b.0)) (omega (arith, eqb-false (length xs) 0 b.1)) d c in
      let at : ℕ = offset p.size n last (length xs) in
      let u : World = received k o g at xs w in
      let o' : Object = with_progress o (grown p g) in
      cond_both (complete (grown p g)) _ _ (λ (a : Answer × World). Goes l (segment t n last xs) (answered a.0, a.1))
      (λ f.
      let sound' : Sound u.state = sound_received w.state k o i sound (grown p g) refl in
      let N : ℕ = o.number in
      let y : Known = with_piece n xs (l.known N) in
      on_told_filing (verdict w.state.clock o.image.trigger) N (filed k o' u) l _ _
      (filings u (kept N n xs l) sound' r.0 k o' (get_or-set_same w.state.slots k (arriving o') free lt) (omega (arith, length-set w.state.slots k (arriving o')))
      (ap (λ (b : Bool). body_in (cond b y (l.known N))) (eq-eqb N N refl) ∙ r.1 f)))
      (λ f. r.0))
      (λ c. h)))

  segmented : (w : World) (l : Ledger) (t n : ℕ) (last : Bool) (xs : List ℕ) → Sound w.state → Follows m w l → Goes l (segment t n last xs) (answered (segment_step w t n last xs).0, (segment_step w t n last xs).1)
  unfolding segment_step entered
  segmented w l t n last xs sound h =
      let P : Answer × World → Type 0 = λ o. Follows m o.1 (entered l (segment t n last xs) (answered o.0)) in
      cond_both (fits_memory w) _ _ P
      (λ fm.
      on_some_both P (first_slot (comes t) w.state.slots) _ _ h
      (λ k z.
      on_arriving_both P (slot_at w.state k) _ _ h
      (λ o i. lands w l t n last xs sound h k o i (found_at (comes t) w.state.slots k z).0)))
      (λ fm. h)

  -- a setting, and a time field
  settings : (w : World) (l : Ledger) (t : ℕ) → Sound w.state → Follows m w l → t ≤ newest → Follows m (fire t (prepared t w)) (happen t (start t l))
  settings w l t sound h ok =
      let u : World = expired t w in
      let l' : Ledger = leave (λ y. passed t y.expire) l in
      let g : Follows m u l' = vacated m keeps w l sound h (ends t) (λ y. passed t y.expire) (λ a y p q. ap (passed t) (sym q)) in
      let sound' : Sound u.state = sound_vacate (ends t) w.state sound in
      fired m keeps (prepared t w) (start t l) (sound_filtered (λ e. leb t e.key) u.state sound') (later_only m keeps u l' sound' g t) t ok

  counts : (w : World) (l : Ledger) (xs : List ℕ) (t : ℕ) (o : Reply × World) (n : ℕ) → time_of xs ≡ Ok (At t) → o.0 ≡ counted n → Follows m o.1 (moved_to (Ok (At t)) l) → Goes l (time xs) o
  unfolding entered
  counts w l xs t o n i e f =
      subst (λ (r : Reply). Follows m o.1 (on_counted r l (moved_to (time_of xs) l))) (sym e) (subst (λ (r : Result Time Fault). Follows m o.1 (moved_to r l)) (sym i) f)

  clocked : (w : World) (l : Ledger) (xs : List ℕ) → Sound w.state → Follows m w l → Goes l (time xs) (time_step w xs)
  unfolding setting_step reading_step entered
  clocked w l xs sound h =
      cond_both (eqb w.state.clock 0) _ _ (Goes l (time xs))
      (λ e. cond_both (fits_memory w) _ _ (Goes l (time xs)) (λ fm. sets e (time_of xs) refl (read_in_time xs)) (λ fm. h))
      (λ e. cond_both (fits_memory w) _ _ (Goes l (time xs)) (λ fm. reads e (time_of xs) refl (read_in_time xs)) (λ fm. h))
    where
      sets : eqb w.state.clock 0 ≡ true → (r : Result Time Fault) → time_of xs ≡ r → InTime (result_ok r) → Goes l (time xs) (on_setting r w)
      sets e (Err d) i ok = h
      sets e (Ok Now) i ok = h
      sets e (Ok (At t)) i ok =
          let z : eqb l.clock 0 ≡ true = ap (λ x. eqb x 0) h.clock ∙ e in
          counts w l xs t (set_to t w) _ i refl (rw z (settings w l t sound h ok.1))

      reads : eqb w.state.clock 0 ≡ false → (r : Result Time Fault) → time_of xs ≡ r → InTime (result_ok r) → Goes l (time xs) (on_reading r w)
      reads e (Err d) i ok = h
      reads e (Ok Now) i ok = h
      reads e (Ok (At t)) i ok =
          let z : eqb l.clock 0 ≡ false = ap (λ x. eqb x 0) h.clock ∙ e in
          cond_both (leb w.state.clock t) _ _ (Goes l (time xs))
          (λ d.
          counts w l xs t (counted (walked (t - w.state.clock) w), walk (t - w.state.clock) w) _ i refl
          (rw z
          (subst (λ x. Follows m (walk (t - w.state.clock) w) (pass (t - x) l)) (sym h.clock)
          (ticks (t - w.state.clock) w l (omega (arith, leb-true w.state.clock t d, ok.1)) sound h))))
          (λ d. h)

  -- a data group does as the call that it asks
  groups_on : (w : World) (l : Ledger) (xs : List ℕ) → Sound w.state → Follows m w l → Goes l (group xs) (group_step w xs)
  unfolding entered group_step
  groups_on w l xs sound h =
      cond_both (fits_memory w) _ _ (Goes l (group xs)) (λ fm. go (group_of xs) refl) (λ fm. none (group_of xs))
    where
      none : (r : Result Group Fault) → Follows m w (grouped r (answered (Refused (receiver_fault BodyMemoryMisfit))) l)
      none (Err e) = h
      none (Ok (groups.header t ys)) = quiet (said ys) w l h
      none (Ok (groups.segment t n last ys)) = h
      none (Ok groups.other) = h

      as_in : (r : Result Group Fault) (o : Reply × World) → group_of xs ≡ r → Follows m o.1 (grouped r o.0 l) → Goes l (group xs) o
      as_in r o i f = subst (λ q. Follows m o.1 (grouped q o.0 l)) (sym i) f

      go : (r : Result Group Fault) → group_of xs ≡ r → Goes l (group xs) (on_group r w)
      go (Err e) i = as_in (Err e) _ i h
      go (Ok (groups.header t ys)) i = as_in (Ok (groups.header t ys)) _ i (headed w l t ys sound h)
      go (Ok (groups.segment t n last ys)) i = as_in (Ok (groups.segment t n last ys)) _ i (segmented w l t n last ys sound h)
      go (Ok groups.other) i = as_in (Ok groups.other) _ i h

  pub nexts : (w : World) (l : Ledger) (c : Call) → Sound w.state → Follows m w l → Goes l c (step w c)
  unfolding step entered
  nexts w l (header t xs) sound h = headed w l t xs sound h
  nexts w l (segment t n last xs) sound h = segmented w l t n last xs sound h
  nexts w l (group xs) sound h = groups_on w l xs sound h
  nexts w l (time xs) sound h = clocked w l xs sound h
  nexts w l (find_name n) sound h = h
  nexts w l (next_place c) sound h = h
  nexts w l (body_of n) sound h = h
  nexts w l card sound h = h
  nexts w l (card_byte i) sound h = h
  nexts w l slot_size sound h = h

  pub runs : (cs : List Call) (w : World) (l : Ledger) → Sound w.state → Follows m w l → Follows m (after w cs) (ledger l cs (replies w cs))
  runs [] w l sound h = h
  runs (c ∷ cs) w l sound h = runs cs (step w c).1 (entered l c (step w c).0) (sound_step w c sound) (nexts w l c sound h)

  pub opens : (size : ℕ) (memory : List ℕ) → Follows m (opened m size memory) blank
  opens size memory =
      record {
        clock = refl;
        early = omega arith;
        framed = omega arith;
        waits = none;
        knows = λ k. rw (all_free 12 k) tt;
        display = refl;
        accepted = tt;
      }
