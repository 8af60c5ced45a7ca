-- Every call keeps a receiver's state sound, and numbers its slides in order.
use Rattle.std.proofs.Common.{◌≡◌, ℕ, zero, suc, ◌-◌, ◌<◌, ◌≤◌, Bool, true, false, cond, ◌||◌, eqb, ltb, leb, List, [], ◌∷◌, length, get_or, replicate, Some, None, Ok, Err, Option, Result, sym, refl, ap, ◌∙◌, subst, arith}
use Rattle.display.specs.Meaning.{Meaning}
use Rattle.datagroup.specs.Groups as groups
use Rattle.datagroup.specs.Groups.{Group, group_of}
use Rattle.header.proofs.Facts.{header_sound}
use Rattle.header.specs.Headers.{HeaderRecord, header_of}
use Rattle.header.specs.Names.{NameRecord}
use Rattle.header.specs.Sound as headers
use Rattle.header.specs.declared.kinds.Category.{Category}
use Rattle.header.specs.declared.kinds.Kind.{Kind}
use Rattle.header.specs.declared.kinds.Kind.TheVariants.{Image, Update}
use Rattle.moment.specs.Field.{time_of}
use Rattle.moment.specs.declared.times.Time.{Time}
use Rattle.moment.specs.declared.times.Time.TheVariants as times
use Rattle.refusal.specs.declared.Fault.{Fault}
use Rattle.rules.specs.Assembly.{put, received, on_landing, segment_of, segment_step}
use Rattle.rules.specs.Calls.{Call, header, segment, group, time, find_name, next_place, body_of, card, card_byte, slot_size, Reply, answered, refused}
use Rattle.rules.specs.Clocks.{tick, walk, on_setting, on_reading, setting_step, reading_step, time_step}
use Rattle.rules.specs.Groups.{on_group, group_step}
use Rattle.rules.specs.Headers.{slot_for, image_step, recategorised, told_update, update_step, by_kind, on_header, header_step, resent, amended}
use Rattle.rules.specs.Laws.{CountOn, given_by, given_in_group, given_in, NumbersRise, on_taken}
use Rattle.rules.specs.Runs.{opened, after, replies, step}
use Rattle.rules.specs.Soundness.{Sound}
use Rattle.rules.specs.Triggers.{Verdict, nothing, effect, late, wait, verdict}
use Rattle.rules.specs.Worlds.{State, World, slot_at, fits_memory, with_state, vacate, armed, categorised}
use Rattle.rules.specs.declared.answers.Answer.{Answer}
use Rattle.rules.specs.declared.answers.Answer.TheVariants.{Refused}
use Rattle.slots.specs.Searches.{first_slot}
use Rattle.slots.specs.Segments.{has, fits, offset, landing, grown, complete}
use Rattle.slots.specs.Slides as slides
use Rattle.slots.specs.Slides.{Slot, free, arriving, held, Object, Slide, slide_of, with_progress, image_of, resent_slide, comes, named, versioned, comes_again, sent_under, passed, number_in}
use Rattle.slots.specs.declared.progress.Landing.{Landing}
use Rattle.slots.specs.declared.progress.Segment.{Segment}
use Rattle.std.proofs.lemmas.List.{get_or-set_same}
use Rattle.std.proofs.lemmas.Bool.{cond_both, both_ways, eqb-false, ltb-false}
use Rattle.rules.proofs.Choices.{slot_for_some}
use Rattle.rules.proofs.Finds.{found_at, on_some_both, on_arriving_both}
use Rattle.rules.proofs.Sounds.{sound_vacate, sound_begun, sound_received, sound_filed, sound_categorised, sound_armed, sound_walk, sound_set, arriving_within, resent_slot, sound_resent}

-- a category says nothing of the clock
pub recategorised_clock : (c : Option Category) (n : ℕ) (w : World) → (recategorised c n w).state.clock ≡ w.state.clock
recategorised_clock None n w = refl
recategorised_clock (Some c) n w = refl

-- what a call owes: a sound state, and the next number to a header that is taken
record Goes (w : World) (c : Call) (o : Reply × World) : Type 0 where
  sound : Sound o.1.state
  rises : (ns : List ℕ) → CountOn o.1.state.given ns → CountOn w.state.given (given_by c o.0 ns)

-- a trigger that waits lies above the clock
pub later_than : (c : ℕ) (t : Option Time) (m : ℕ) → verdict c t ≡ wait m → c < m
later_than c None m e = let z : ◌≡◌ {A = ℕ} 0 1 = cc in absurd (omega arith)
later_than c (Some times.Now) m e = let z : ◌≡◌ {A = ℕ} 0 1 = cc in absurd (omega arith)
later_than c (Some (times.At t)) m e = go (eqb t c) (ltb t c) refl refl e
  where
    go : (a b : Bool) → eqb t c ≡ a → ltb t c ≡ b → cond a effect (cond b late (wait t)) ≡ wait m → c < m
    go true b i j e = let z : ◌≡◌ {A = ℕ} 0 1 = cc in absurd (omega arith)
    go false true i j e = let z : ◌≡◌ {A = ℕ} 0 1 = cc in absurd (omega arith)
    go false false i j e =
        let z : t ≡ m = cc in
        let d : t ≡ c → ⊥ = eqb-false t c i in
        let k : c ≤ t = ltb-false t c j in
        omega arith

-- nothing changes
still : (w : World) (c : Call) (r : Reply) → Sound w.state → ((ns : List ℕ) → given_by c r ns ≡ ns) → Goes w c (r, w)
still w c r h e = record { sound = h; rises = λ ns i. subst (CountOn w.state.given) (sym (e ns)) i }

-- a slot found by a test that only slides pass is held
held_found : (test : Slot → Bool) → test free ≡ false → ((o : Object) → test (arriving o) ≡ false) → (s : State) (k : ℕ) → first_slot test s.slots ≡ Some k → (x : Slide) × (slot_at s k ≡ held x)
held_found test f a s k e = go (slot_at s k) refl (found_at test s.slots k e).1
  where
    go : (z : Slot) → slot_at s k ≡ z → test z ≡ true → (x : Slide) × (slot_at s k ≡ held x)
    go free i t = absurd (both_ways (test free) f t)
    go (arriving o) i t = absurd (both_ways (test (arriving o)) (a o) t)
    go (held x) i t = (x, i)

pub held_named : (s : State) (a : NameRecord) (k : ℕ) → first_slot (named a) s.slots ≡ Some k → (x : Slide) × (slot_at s k ≡ held x)
held_named s a k e = held_found (named a) refl (λ o. refl) s k e

pub held_versioned : (s : State) (a : NameRecord) (v k : ℕ) → first_slot (versioned a v) s.slots ≡ Some k → (x : Slide) × (slot_at s k ≡ held x)
held_versioned s a v k e = held_found (versioned a v) refl (λ o. refl) s k e

pub versioned_within : (s : State) (a : NameRecord) (v k : ℕ) → Sound s → first_slot (versioned a v) s.slots ≡ Some k → k < 12
versioned_within s a v k h e = omega (arith, h.twelve, (found_at (versioned a v) s.slots k e).0)

armed_given : (v : Verdict) (k : ℕ) (w : World) → (armed v k w).state.given ≡ w.state.given
armed_given nothing k w = refl
armed_given effect k w = refl
armed_given late k w = refl
armed_given (wait m) k w = refl

pub sound_recategorised : (c : Option Category) (k : ℕ) (w : World) (x : Slide) → slot_at w.state k ≡ held x → Sound w.state → Sound (recategorised c (number_in (slot_at w.state k)) w).state
sound_recategorised None k w x i h = h
sound_recategorised (Some c) k w x i h =
    subst (λ j. Sound (categorised (slides.real_category c) j w).state) (sym (ap number_in i)) (sound_categorised (slides.real_category c) k w x i h)

quiet_update : (v : Verdict) (n : ℕ) (ns : List ℕ) → on_taken (answered (told_update v n)) ns ≡ ns
quiet_update nothing n ns = refl
quiet_update effect n ns = refl
quiet_update late n ns = refl
quiet_update (wait m) n ns = refl

recategorised_given : (c : Option Category) (n : ℕ) (w : World) → (recategorised c n w).state.given ≡ w.state.given
recategorised_given None n w = refl
recategorised_given (Some c) n w = refl

pub recategorised_slot : (c : Option Category) (n : ℕ) (w : World) (k : ℕ) → slot_at (recategorised c n w).state k ≡ slot_at w.state k
recategorised_slot None n w k = refl
recategorised_slot (Some c) n w k = refl

-- a held slide is amended, in a world that gave as many numbers
amends : (w u : World) (t : ℕ) (xs : List ℕ) (k : ℕ) (x : HeaderRecord) (y : Slide) → u.state.given ≡ w.state.given → slot_at u.state k ≡ held y → Sound u.state → Goes w (header t xs) (answered (amended k x u).0, (amended k x u).1)
amends w u t xs k x y g i h =
    let n : ℕ = number_in (slot_at u.state k) in
    let v : Verdict = verdict u.state.clock x.trigger in
    let u' : World = recategorised x.category n u in
    record {
      sound = sound_armed v k u' y (recategorised_slot x.category n u k ∙ i) (λ m q. subst (λ c. c < m) (sym (recategorised_clock x.category n u)) (later_than u.state.clock x.trigger m q)) (sound_recategorised x.category k u y i h);
      rises = λ ns j. subst (CountOn w.state.given) (sym (quiet_update v n ns)) (subst (λ b. CountOn b ns) (armed_given v k u' ∙ (recategorised_given x.category n u ∙ g)) j);
    }

module _ (w : World) (h : Sound w.state) where
  abbrev s : State
  s = w.state

  images : (t : ℕ) (xs : List ℕ) (x : HeaderRecord) → headers.Sound s.room x → x.kind ≡ Image → Goes w (header t xs) (answered (image_step w t x).0, (image_step w t x).1)
  images t xs x ok kind =
      let P : Answer × World → Type 0 = λ o. Goes w (header t xs) (answered o.0, o.1) in
      let body = subst (λ k. headers.Body k x.body_size s.room) kind ok.body in
      let q : (a : Answer) → ((ns : List ℕ) → on_taken (answered a) ns ≡ ns) → P (a, w) = λ a e. still w (header t xs) (answered a) h e in
      on_some_both P (first_slot (versioned x.name (image_of x).version) s.slots) _ _
      (on_some_both P (first_slot (comes_again t (image_of x)) s.slots) _ _
      (cond_both (passed s.clock x.expire) _ _ P (λ e. q _ (λ ns. refl))
      (λ e.
      cond_both (eqb s.given 4294967295) _ _ P (λ d. q _ (λ ns. refl))
      (λ d.
      on_some_both P (slot_for s t) _ _ (q _ (λ ns. refl))
      (λ k z.
      record {
        sound = sound_begun s k t (image_of x) h (slot_for_some s t k h z).0 body.0 body.1 e;
        rises = λ ns i. (refl, i);
      }))))
      (λ k z. q _ (λ ns. refl)))
      (λ k z.
      let (y, i) = held_versioned s x.name (image_of x).version k z in
      let lt : k < 12 = versioned_within s x.name (image_of x).version k h z in
      cond_both (sent_under t (slot_at s k)) _ _ P (λ e. q _ (λ ns. refl))
      (λ e.
      cond_both (passed s.clock x.expire) _ _ P (λ d. q _ (λ ns. refl))
      (λ d. amends w (with_state (resent k t s) w) t xs k x (resent_slide t y) refl (resent_slot s k t y i lt h) (sound_resent s k t y i lt h))))

  updates : (t : ℕ) (xs : List ℕ) (x : HeaderRecord) → Goes w (header t xs) (answered (update_step w x).0, (update_step w x).1)
  updates t xs x =
      let P : Answer × World → Type 0 = λ o. Goes w (header t xs) (answered o.0, o.1) in
      on_some_both P (first_slot (named x.name) s.slots) _ _ (still w (header t xs) _ h (λ ns. refl))
      (λ k z. let (y, i) = held_named s x.name k z in amends w w t xs k x y refl i h)

  headed : (t : ℕ) (xs : List ℕ) → Goes w (header t xs) (answered (header_step w t xs).0, (header_step w t xs).1)
  unfolding header_step
  headed t xs =
      let P : Answer × World → Type 0 = λ o. Goes w (header t xs) (answered o.0, o.1) in
      cond_both (fits_memory w) _ _ P (λ fm. go (header_of xs s.room) refl) (λ fm. still w (header t xs) _ h (λ ns. refl))
    where
      kinds : (x : HeaderRecord) → header_of xs w.state.room ≡ Ok x → (k : Kind) → x.kind ≡ k → Goes w (header t xs) (answered (by_kind k w t x).0, (by_kind k w t x).1)
      kinds x e Image kind = images t xs x (header_sound xs w.state.room x e) kind
      kinds x e Update kind = updates t xs x

      go : (r : Result HeaderRecord Fault) → header_of xs w.state.room ≡ r → Goes w (header t xs) (answered (on_header r w t).0, (on_header r w t).1)
      go (Err e) i = still w (header t xs) (answered (Refused e)) h (λ ns. refl)
      go (Ok x) i = kinds x i x.kind refl

  lands : (t n : ℕ) (last : Bool) (xs : List ℕ) (k : ℕ) (o : Object) → slot_at s k ≡ arriving o → k < length s.slots → let g : Segment = segment_of n last xs in Goes w (segment t n last xs) (answered (on_landing (landing o.progress g) k o g xs w).0, (on_landing (landing o.progress g) k o g xs w).1)
  lands t n last xs k o i lt =
      let g : Segment = segment_of n last xs in
      let c : Call = segment t n last xs in
      let p = o.progress in
      let P : Landing → Type 0 = λ a. Goes w c (answered (on_landing a k o g xs w).0, (on_landing a k o g xs w).1) in
      cond_both (ltb 63 n || eqb (length xs) 0) _ _ P (λ e. still w c _ h (λ ns. refl))
      (λ e.
      cond_both (has n p.taken) _ _ P (λ d. still w c _ h (λ ns. refl))
      (λ d.
      cond_both (fits p.piece p.size n last (length xs)) _ _ P
      (λ f.
      let u : World = received k o g (offset p.size n last (length xs)) xs w in
      let o' : Object = with_progress o (grown p g) in
      let sound' : Sound u.state = sound_received s k o i h (grown p g) refl in
      let i' : slot_at u.state k ≡ arriving o' = get_or-set_same s.slots k (arriving o') free lt in
      cond_both (complete (grown p g)) _ _ (λ (a : Answer × World). Goes w c (answered a.0, a.1))
      (λ q.
      let a : NameRecord = o.image.name in
      let v : Verdict = verdict s.clock o.image.trigger in
      let f' : World = with_state (put k (held (slide_of o')) (vacate (named a) u.state)) u in
      let sound'' : Sound f'.state = sound_filed k o' u.state i' sound' in
      let j : slot_at f'.state k ≡ held (slide_of o') =
      get_or-set_same (vacate (named a) u.state).slots k (held (slide_of o')) free (omega (arith, (sound_vacate (named a) u.state sound').twelve, arriving_within s k o i h)) in
      let f'' : World = categorised o.image.category o.number f' in
      record {
        sound = sound_armed v k f'' (slide_of o') j (λ m z. later_than s.clock o.image.trigger m z) (sound_categorised o.image.category k f' (slide_of o') j sound'');
        rises = λ ns z. subst (λ b. CountOn b ns) (armed_given v k f'') z;
      })
      (λ q. record { sound = sound'; rises = λ ns z. z }))
      (λ f. still w c _ h (λ ns. refl))))

  segmented : (t n : ℕ) (last : Bool) (xs : List ℕ) → Goes w (segment t n last xs) (answered (segment_step w t n last xs).0, (segment_step w t n last xs).1)
  unfolding segment_step
  segmented t n last xs =
      let c : Call = segment t n last xs in
      let P : Answer × World → Type 0 = λ o. Goes w c (answered o.0, o.1) in
      cond_both (fits_memory w) _ _ P
      (λ fm.
      on_some_both P (first_slot (comes t) s.slots) _ _ (still w c _ h (λ ns. refl))
      (λ k z.
      on_arriving_both P (slot_at s k) _ _ (still w c _ h (λ ns. refl))
      (λ o i. lands t n last xs k o i (found_at (comes t) s.slots k z).0)))
      (λ fm. still w c _ h (λ ns. refl))

  walk_given : (n : ℕ) → (walk n w).state.given ≡ s.given
  unfolding tick
  walk_given zero = refl
  walk_given (suc n) = walk_given n

  setting : (xs : List ℕ) → Goes w (time xs) (setting_step w xs)
  unfolding setting_step
  setting xs = cond_both (fits_memory w) _ _ (Goes w (time xs)) (λ fm. go (time_of xs)) (λ fm. still w (time xs) _ h (λ ns. refl))
    where
      go : (r : Result Time Fault) → Goes w (time xs) (on_setting r w)
      go (Err e) = still w (time xs) (refused e) h (λ ns. refl)
      go (Ok times.Now) = still w (time xs) _ h (λ ns. refl)
      go (Ok (times.At t)) = record { sound = sound_set t w h; rises = λ ns i. i }

  reading : (xs : List ℕ) → Goes w (time xs) (reading_step w xs)
  unfolding reading_step
  reading xs = cond_both (fits_memory w) _ _ (Goes w (time xs)) (λ fm. go (time_of xs)) (λ fm. still w (time xs) _ h (λ ns. refl))
    where
      go : (r : Result Time Fault) → Goes w (time xs) (on_reading r w)
      go (Err e) = still w (time xs) (refused e) h (λ ns. refl)
      go (Ok times.Now) = still w (time xs) _ h (λ ns. refl)
      go (Ok (times.At t)) =
          cond_both (leb s.clock t) _ _ (Goes w (time xs))
          (λ d. record { sound = sound_walk (t - s.clock) w h; rises = λ ns i. subst (λ g. CountOn g ns) (walk_given (t - s.clock)) i })
          (λ d. still w (time xs) _ h (λ ns. refl))

  clocked : (xs : List ℕ) → Goes w (time xs) (time_step w xs)
  clocked xs = cond_both (eqb s.clock 0) _ _ (Goes w (time xs)) (λ e. setting xs) (λ e. reading xs)

  -- a data group does as the call that it asks
  grouped : (xs : List ℕ) → Goes w (group xs) (group_step w xs)
  unfolding group_step
  grouped xs =
      cond_both (fits_memory w) _ _ (Goes w (group xs)) (λ fm. go (group_of xs) refl)
      (λ fm. still w (group xs) _ h (λ ns. none (group_of xs) _ ns))
    where
      none : (r : Result Group Fault) (e : Fault) (ns : List ℕ) → given_in_group r (answered (Refused e)) ns ≡ ns
      none (Err d) e ns = refl
      none (Ok (groups.header t ys)) e ns = refl
      none (Ok (groups.segment t n last ys)) e ns = refl
      none (Ok groups.other) e ns = refl

      as_in : (r : Result Group Fault) (c : Call) (o : Reply × World) → group_of xs ≡ r → ((ns : List ℕ) → given_by c o.0 ns ≡ given_in_group r o.0 ns) → Goes w c o → Goes w (group xs) o
      as_in r c o i e g =
          record { sound = g.sound; rises = λ ns d. subst (λ q. CountOn w.state.given (given_in_group q o.0 ns)) (sym i) (subst (CountOn w.state.given) (e ns) (g.rises ns d)) }

      go : (r : Result Group Fault) → group_of xs ≡ r → Goes w (group xs) (on_group r w)
      go (Err e) i = as_in (Err e) card _ i (λ ns. refl) (still w card _ h (λ ns. refl))
      go (Ok (groups.header t ys)) i = as_in (Ok (groups.header t ys)) (header t ys) _ i (λ ns. refl) (headed t ys)
      go (Ok (groups.segment t n last ys)) i = as_in (Ok (groups.segment t n last ys)) (segment t n last ys) _ i (λ ns. refl) (segmented t n last ys)
      go (Ok groups.other) i = as_in (Ok groups.other) card _ i (λ ns. refl) (still w card _ h (λ ns. refl))

  goes : (c : Call) → Goes w c (step w c)
  unfolding step
  goes (header t xs) = headed t xs
  goes (segment t n last xs) = segmented t n last xs
  goes (group xs) = grouped xs
  goes (time xs) = clocked xs
  goes (find_name n) = still w (find_name n) _ h (λ ns. refl)
  goes (next_place p) = still w (next_place p) _ h (λ ns. refl)
  goes (body_of n) = still w (body_of n) _ h (λ ns. refl)
  goes card = still w card _ h (λ ns. refl)
  goes (card_byte i) = still w (card_byte i) _ h (λ ns. refl)
  goes slot_size = still w slot_size _ h (λ ns. refl)

pub sound_step : (w : World) (c : Call) → Sound w.state → Sound (step w c).1.state
sound_step w c h = (goes w h c).sound

pub sound_run : (cs : List Call) (w : World) → Sound w.state → Sound (after w cs).state
sound_run [] w h = h
sound_run (c ∷ cs) w h = sound_run cs (step w c).1 (sound_step w c h)

count_run : (cs : List Call) (w : World) → Sound w.state → CountOn w.state.given (given_in cs (replies w cs))
count_run [] w h = tt
count_run (c ∷ cs) w h =
    let g = goes w h c in
    g.rises (given_in cs (replies (step w c).1 cs)) (count_run cs (step w c).1 g.sound)

pub all_free : (n k : ℕ) → get_or (replicate n free) k free ≡ free
all_free zero k = refl
all_free (suc n) zero = refl
all_free (suc n) (suc k) = all_free n k

pub sound_open : (m : Meaning) (size : ℕ) (memory : List ℕ) → Sound (opened m size memory).state
sound_open m size memory = record {
  twelve = refl;
  round = omega arith;
  slot_sound = λ k. rw (all_free 12 k) tt;
  numbers_distinct = λ j k. rw (all_free 12 j) (λ z e. absurd (omega arith));
  names_distinct = λ j k x y e d n. absurd (let q : free ≡ held x = sym (all_free 12 j) ∙ e in let z : ◌≡◌ {A = ℕ} 0 1 = cc in omega arith);
  waiting_ascends = tt;
  waiting_ahead = tt;
  waiting_held = tt;
  one_trigger_each = tt;
  places_ascend = tt;
  places_apart = tt;
  places_held = tt;
  one_place_each = tt;
}

pub numbers_rise : (m : Meaning) (size : ℕ) (memory : List ℕ) → NumbersRise m size memory
numbers_rise m size memory cs = count_run cs (opened m size memory) (sound_open m size memory)
