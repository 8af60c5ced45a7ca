-- The history goes on by what takes effect, call by call.
use Rattle.std.proofs.Common.{◌≡◌, ℕ, ◌-◌, ◌<◌, ◌^◌, Bool, true, false, ◌||◌, eqb, ltb, leb, cond, List, [], ◌∷◌, ◌++◌, length, Ok, Err, Result, sym, refl, ap, ◌∙◌, subst, subst₂, arith}
use Rattle.datagroup.specs.Groups as groups
use Rattle.datagroup.specs.Groups.{Group, group_of}
use Rattle.display.specs.Meaning.{Meaning, Keeps}
use Rattle.header.proofs.Moments.{read_in_time}
use Rattle.header.specs.Headers.{HeaderRecord, header_of}
use Rattle.header.specs.Sound.{InTime}
use Rattle.header.specs.declared.kinds.Kind.{Kind}
use Rattle.header.specs.declared.kinds.Kind.TheVariants.{Image, Update}
use Rattle.moment.specs.Field.{time_of}
use Rattle.moment.specs.declared.times.Time.{Time}
use Rattle.moment.specs.declared.times.Time.TheVariants.{Now, At}
use Rattle.refusal.specs.declared.Fault.{Fault}
use Rattle.rules.proofs.Enters.{segments, filing_told, ticks_told, recategorises, wider, nexts}
use Rattle.rules.proofs.Finds.{found_at, cond_two, on_some_two, on_arriving_two, on_some_both}
use Rattle.rules.proofs.Follows.{Follows, vacated, later_only, resends, arming_told, due_told}
use Rattle.rules.proofs.Kept.{sound_step, sound_recategorised, recategorised_slot, held_named, held_versioned, versioned_within}
use Rattle.rules.proofs.Sounds.{sound_vacate, sound_filtered, sound_received, resent_slot, sound_resent}
use Rattle.rules.specs.Assembly.{received, told_filing, on_landing, segment_of, segment_step}
use Rattle.refusal.specs.declared.causes.Cause.TheVariants.{BodyMemoryMisfit, ReadingBelowClock}
use Rattle.rules.specs.Calls.{Call, header, segment, group, time, find_name, next_place, body_of, card, card_byte, slot_size, Reply, answered, counted, refused}
use Rattle.rules.specs.Clocks.{prepared, expired, walk, walked, on_setting, on_reading, setting_step, reading_step, time_step}
use Rattle.rules.specs.Effects.{arming_effects, due_effects, on_setting_effects, on_reading_effects, setting_effects, reading_effects, time_effects, update_effects, by_kind_effects, on_header_effects, header_effects, landing_effects, segment_effects, on_group_effects, group_effects, walk_effects, effects, all_effects, amended_effects, image_effects}
use Rattle.rules.specs.Groups.{on_group, group_step}
use Rattle.rules.specs.Headers.{receiver_fault, slot_for, image_step, told_update, recategorised, update_step, by_kind, on_header, header_step, resent, amended}
use Rattle.rules.specs.Ledgers.{Ledger, Known, body_in, leave, happen, pass, start, arming, noted, kept, with_piece, said, on_said, known_from, grouped, on_answer, moved_to, entered, ledger}
use Rattle.rules.specs.Runs.{replies, step}
use Rattle.rules.specs.Soundness.{Sound}
use Rattle.rules.specs.Triggers.{Verdict, nothing, effect, late, wait, verdict, Effect}
use Rattle.rules.specs.Worlds.{World, slot_at, fits_memory, with_state, due}
use Rattle.rules.specs.declared.answers.Answer.{Answer}
use Rattle.rules.specs.declared.answers.Answer.TheVariants.{Refused}
use Rattle.slots.specs.Searches.{first_slot}
use Rattle.slots.specs.Segments.{has, fits, offset, landing, grown, complete}
use Rattle.slots.specs.Slides.{free, arriving, held, Object, Slide, with_progress, image_of, resent_slide, sent_under, comes, named, versioned, comes_again, ends, passed, number_in}
use Rattle.slots.specs.declared.progress.Landing.{Landing}
use Rattle.slots.specs.declared.progress.Segment.{Segment}
use Rattle.std.proofs.lemmas.Bool.{cond_both, eqb-false, leb-true, ltb-false, eq-eqb, or_parts}
use Rattle.std.proofs.lemmas.List.{append-nil, append_assoc, length-set, get_or-set_same}
use Rattle.std.specs.Result.{result_ok}

-- an answer that arms a trigger
told_filing_history : (v : Verdict) (n : ℕ) (l : Ledger) (p q : ℕ → Ledger) → (on_answer (told_filing v n) l p q).history ≡ (q n).history
told_filing_history nothing n l p q = refl
told_filing_history effect n l p q = refl
told_filing_history late n l p q = refl
told_filing_history (wait t) n l p q = refl

told_update_history : (v : Verdict) (n : ℕ) (l : Ledger) (p q : ℕ → Ledger) → (on_answer (told_update v n) l p q).history ≡ (q n).history
told_update_history nothing n l p q = refl
told_update_history effect n l p q = refl
told_update_history late n l p q = refl
told_update_history (wait t) n l p q = refl

-- the ledger's history has come from h on by these
abbrev Grew : Ledger → List Effect → Ledger → Type 0
Grew l es k = k.history ≡ l.history ++ es

still : (l : Ledger) → Grew l [] l
still l = sym (append-nil l.history)

quiet : (r : Result HeaderRecord Fault) (l : Ledger) → Grew l [] (on_said r l (λ x. l))
quiet (Err e) l = still l
quiet (Ok x) l = still l

quiet_noted : (r : Result HeaderRecord Fault) (n : ℕ) (l : Ledger) → Grew l [] (on_said r l (λ x. noted n (known_from x) l))
quiet_noted (Err e) n l = still l
quiet_noted (Ok x) n l = still l

module _ (m : Meaning) (keeps : Keeps m) where
  -- a held slide is amended
  amends : (w : World) (l : Ledger) (t : ℕ) (xs : List ℕ) (k : ℕ) (x : HeaderRecord) (y : Slide) → Sound w.state → Follows m w l → slot_at w.state k ≡ held y → said xs ≡ Ok x → Grew l (amended_effects k x w) (entered l (header t xs) (answered (amended k x w).0))
  unfolding entered
  amends w l t xs k x y sound h i said-x =
      let n : ℕ = number_in (slot_at w.state k) in
      let e : n ≡ y.number = ap number_in i in
      let v : Verdict = verdict w.state.clock x.trigger in
      let w' : World = recategorised x.category n w in
      let sound' : Sound w'.state = sound_recategorised x.category k w y i sound in
      let g : Grew l (arming_effects v k w') (arming v y.number l) =
      arming_told m keeps w' l sound' (recategorises m keeps x.category n w l sound h) v k y (recategorised_slot x.category n w k ∙ i) in
      let g' : Grew l (arming_effects v k w') (arming (verdict l.clock x.trigger) n l) =
      subst₂ (λ c j. Grew l (arming_effects v k w') (arming (verdict c x.trigger) j l)) (sym h.clock) (sym e) g in
      subst (λ r. Grew l (arming_effects v k w') (on_said r l (λ u. on_answer (told_update v n) l (λ j. noted j (known_from u) l) (λ j. arming (verdict l.clock u.trigger) j l)))) (sym said-x)
      (told_update_history v n l _ _ ∙ g')

  images : (w : World) (l : Ledger) (t : ℕ) (xs : List ℕ) (x : HeaderRecord) → Sound w.state → Follows m w l → said xs ≡ Ok x → Grew l (image_effects w t x) (entered l (header t xs) (answered (image_step w t x).0))
  unfolding entered
  images w l t xs x sound h said-x =
      let P : Answer × World → Type 0 = λ o. Grew l [] (entered l (header t xs) (answered o.0)) in
      let Q : Answer × World → List Effect → Type 0 = λ o es. Grew l es (entered l (header t xs) (answered o.0)) in
      let q = quiet (said xs) l in
      on_some_two Q (first_slot (versioned x.name (image_of x).version) w.state.slots) _ _ _ _
      (on_some_both P (first_slot (comes_again t (image_of x)) w.state.slots) _ _
      (cond_both (passed w.state.clock x.expire) _ _ P (λ e. q)
      (λ e. cond_both (eqb w.state.given 4294967295) _ _ P (λ d. q) (λ d. on_some_both P (slot_for w.state t) _ _ q (λ k z. quiet_noted (said xs) _ l))))
      (λ k z. q))
      (λ k z.
      let (y, i) = held_versioned w.state x.name (image_of x).version k z in
      let lt : k < 12 = versioned_within w.state x.name (image_of x).version k sound z in
      cond_two Q (sent_under t (slot_at w.state k)) _ _ _ _ (λ e. q)
      (λ e.
      cond_two Q (passed w.state.clock x.expire) _ _ _ _ (λ d. q)
      (λ d.
      amends (with_state (resent k t w.state) w) l t xs k x (resent_slide t y) (sound_resent w.state k t y i lt sound) (resends m keeps w l sound h k t y i lt) (resent_slot w.state k t y i lt sound) said-x)))

  updates : (w : World) (l : Ledger) (t : ℕ) (xs : List ℕ) (x : HeaderRecord) → Sound w.state → Follows m w l → said xs ≡ Ok x → Grew l (update_effects w x) (entered l (header t xs) (answered (update_step w x).0))
  unfolding entered
  updates w l t xs x sound h said-x =
      on_some_two (λ (o : Answer × World) (es : List Effect). Grew l es (entered l (header t xs) (answered o.0))) (first_slot (named x.name) w.state.slots) _ _ _ _ (quiet (said xs) l)
      (λ k z. let (y, i) = held_named w.state x.name k z in amends w l t xs k x y sound h i said-x)

  headed : (w : World) (l : Ledger) (t : ℕ) (xs : List ℕ) → Sound w.state → Follows m w l → Grew l (header_effects w t xs) (entered l (header t xs) (answered (header_step w t xs).0))
  unfolding header_step header_effects entered
  headed w l t xs sound h =
      cond_two (λ (o : Answer × World) (es : List Effect). Grew l es (entered l (header t xs) (answered o.0))) (fits_memory w) _ _ _ _ (λ fm. go (header_of xs w.state.room) refl) (λ fm. quiet (said xs) l)
    where
      kinds : (x : HeaderRecord) → header_of xs w.state.room ≡ Ok x → (k : Kind) → Grew l (by_kind_effects k w t x) (entered l (header t xs) (answered (by_kind k w t x).0))
      kinds x e Image = images w l t xs x sound h (wider m keeps xs w.state.room (2 ^ 28) x (omega (arith, h.framed, keeps.frame_small)) e)
      kinds x e Update = updates w l t xs x sound h (wider m keeps xs w.state.room (2 ^ 28) x (omega (arith, h.framed, keeps.frame_small)) e)

      go : (r : Result HeaderRecord Fault) → header_of xs w.state.room ≡ r → Grew l (on_header_effects r w t) (entered l (header t xs) (answered (on_header r w t).0))
      go (Err e) i = quiet (said xs) l
      go (Ok x) i = kinds x i x.kind

  lands : (w : World) (l : Ledger) (t n : ℕ) (last : Bool) (xs : List ℕ) → Sound w.state → Follows m w l → (k : ℕ) (o : Object) → slot_at w.state k ≡ arriving o → k < length w.state.slots → let g : Segment = segment_of n last xs in Grew l (landing_effects (landing o.progress g) k o g xs w) (entered l (segment t n last xs) (answered (on_landing (landing o.progress g) k o g xs w).0))
  unfolding entered
  lands w l t n last xs sound h k o i lt =
      let g : Segment = segment_of n last xs in
      let p = o.progress in
      let P : Landing → Type 0 = λ a. Grew l (landing_effects a k o g xs w) (entered l (segment t n last xs) (answered (on_landing a k o g xs w).0)) in
      cond_both (ltb 63 n || eqb (length xs) 0) _ _ P (λ e. still l)
      (λ e.
      let b = or_parts (ltb 63 n) (eqb (length xs) 0) e in
      cond_both (has n p.taken) _ _ P (λ d. still l)
      (λ d.
      cond_both (fits p.piece p.size n last (length xs)) _ _ P
      (λ c.
      let r = segments m keeps w l sound h k o i lt n last xs (omega (arith, ltb-false 63 n b.0)) (omega (arith, eqb-false (length xs) 0 b.1)) d c in
      let at : ℕ = offset p.size n last (length xs) in
      let u : World = received k o g at xs w in
      let o' : Object = with_progress o (grown p g) in
      cond_two (λ (a : Answer × World) (es : List Effect). Grew l es (entered l (segment t n last xs) (answered a.0))) (complete (grown p g)) _ _ _ _
      (λ f.
      let sound' : Sound u.state = sound_received w.state k o i sound (grown p g) refl in
      let N : ℕ = o.number in
      let y : Known = with_piece n xs (l.known N) in
      told_filing_history (verdict w.state.clock o.image.trigger) N l _ _
      ∙ filing_told m keeps u (kept N n xs l) sound' r.0 k o' (get_or-set_same w.state.slots k (arriving o') free lt) (omega (arith, length-set w.state.slots k (arriving o')))
      (ap (λ (b : Bool). body_in (cond b y (l.known N))) (eq-eqb N N refl) ∙ r.1 f))
      (λ f. still l))
      (λ c. still l)))

  segmented : (w : World) (l : Ledger) (t n : ℕ) (last : Bool) (xs : List ℕ) → Sound w.state → Follows m w l → Grew l (segment_effects w t n last xs) (entered l (segment t n last xs) (answered (segment_step w t n last xs).0))
  unfolding segment_step segment_effects entered
  segmented w l t n last xs sound h =
      let P : Answer × World → List Effect → Type 0 = λ o es. Grew l es (entered l (segment t n last xs) (answered o.0)) in
      cond_two P (fits_memory w) _ _ _ _
      (λ fm.
      on_some_two P (first_slot (comes t) w.state.slots) _ _ _ _ (still l)
      (λ k z. on_arriving_two P (slot_at w.state k) _ _ _ _ (still l) (λ o i. lands w l t n last xs sound h k o i (found_at (comes t) w.state.slots k z).0)))
      (λ fm. still l)

  counts : (l : Ledger) (xs : List ℕ) (t n : ℕ) (es : List Effect) → time_of xs ≡ Ok (At t) → Grew l es (moved_to (Ok (At t)) l) → Grew l es (entered l (time xs) (counted n))
  unfolding entered
  counts l xs t n es i e = subst (λ (r : Result Time Fault). Grew l es (moved_to r l)) (sym i) e

  settings : (w : World) (l : Ledger) (t : ℕ) → Sound w.state → Follows m w l → Grew l (due_effects t (prepared t w)) (happen t (start t l))
  settings w l t sound h =
      let u : World = expired t w in
      let l' : Ledger = leave (λ y. passed t y.expire) l in
      let g : Follows m u l' = vacated m keeps w l sound h (ends t) (λ y. passed t y.expire) (λ a y p q. ap (passed t) (sym q)) in
      let sound' : Sound u.state = sound_vacate (ends t) w.state sound in
      due_told m keeps (prepared t w) (start t l) (sound_filtered (λ e. leb t e.key) u.state sound') (later_only m keeps u l' sound' g t) t

  clocked : (w : World) (l : Ledger) (xs : List ℕ) → Sound w.state → Follows m w l → Grew l (time_effects w xs) (entered l (time xs) (time_step w xs).0)
  unfolding setting_step reading_step setting_effects reading_effects entered
  clocked w l xs sound h =
      let P : Reply × World → List Effect → Type 0 = λ o es. Grew l es (entered l (time xs) o.0) in
      cond_two P (eqb w.state.clock 0) _ _ _ _
      (λ e. cond_two P (fits_memory w) _ _ _ _ (λ fm. sets e (time_of xs) refl) (λ fm. still l))
      (λ e. cond_two P (fits_memory w) _ _ _ _ (λ fm. reads e (time_of xs) refl (read_in_time xs)) (λ fm. still l))
    where
      sets : eqb w.state.clock 0 ≡ true → (r : Result Time Fault) → time_of xs ≡ r → Grew l (on_setting_effects r w) (entered l (time xs) (on_setting r w).0)
      sets e (Err d) i = still l
      sets e (Ok Now) i = still l
      sets e (Ok (At t)) i =
          let z : eqb l.clock 0 ≡ true = ap (λ x. eqb x 0) h.clock ∙ e in
          counts l xs t (length (due t (prepared t w).state.waiting)) (due_effects t (prepared t w)) i (rw z (settings w l t sound h))

      reads : eqb w.state.clock 0 ≡ false → (r : Result Time Fault) → time_of xs ≡ r → InTime (result_ok r) → Grew l (on_reading_effects r w) (entered l (time xs) (on_reading r w).0)
      reads e (Err d) i ok = still l
      reads e (Ok Now) i ok = still l
      reads e (Ok (At t)) i ok =
          let z : eqb l.clock 0 ≡ false = ap (λ x. eqb x 0) h.clock ∙ e in
          cond_two (λ (o : Reply × World) (es : List Effect). Grew l es (entered l (time xs) o.0)) (leb w.state.clock t) (counted (walked (t - w.state.clock) w), walk (t - w.state.clock) w) (refused (receiver_fault ReadingBelowClock), w) (walk_effects (t - w.state.clock) w) []
          (λ d.
          counts l xs t (walked (t - w.state.clock) w) (walk_effects (t - w.state.clock) w) i
          (rw z
          (subst (λ x. Grew l (walk_effects (t - w.state.clock) w) (pass (t - x) l)) (sym h.clock)
          (ticks_told m keeps (t - w.state.clock) w l (omega (arith, leb-true w.state.clock t d, ok.1)) sound h))))
          (λ d. still l)

  -- a data group does as the call that it asks
  groups_on : (w : World) (l : Ledger) (xs : List ℕ) → Sound w.state → Follows m w l → Grew l (group_effects w xs) (entered l (group xs) (group_step w xs).0)
  unfolding entered group_step group_effects
  groups_on w l xs sound h =
      cond_two (λ (o : Reply × World) (es : List Effect). Grew l es (entered l (group xs) o.0)) (fits_memory w) _ _ _ _
      (λ fm. go (group_of xs) refl)
      (λ fm. none (group_of xs))
    where
      none : (r : Result Group Fault) → Grew l [] (grouped r (answered (Refused (receiver_fault BodyMemoryMisfit))) l)
      none (Err e) = still l
      none (Ok (groups.header t ys)) = quiet (said ys) l
      none (Ok (groups.segment t n last ys)) = still l
      none (Ok groups.other) = still l

      as_in : (r : Result Group Fault) (o : Reply) (es : List Effect) → group_of xs ≡ r → Grew l es (grouped r o l) → Grew l es (entered l (group xs) o)
      as_in r o es i f = subst (λ q. Grew l es (grouped q o l)) (sym i) f

      go : (r : Result Group Fault) → group_of xs ≡ r → Grew l (on_group_effects r w) (entered l (group xs) (on_group r w).0)
      go (Err e) i = as_in (Err e) _ _ i (still l)
      go (Ok (groups.header t ys)) i = as_in (Ok (groups.header t ys)) _ _ i (headed w l t ys sound h)
      go (Ok (groups.segment t n last ys)) i = as_in (Ok (groups.segment t n last ys)) _ _ i (segmented w l t n last ys sound h)
      go (Ok groups.other) i = as_in (Ok groups.other) _ _ i (still l)

  grows : (w : World) (l : Ledger) (c : Call) → Sound w.state → Follows m w l → Grew l (effects w c) (entered l c (step w c).0)
  unfolding step effects entered
  grows w l (header t xs) sound h = headed w l t xs sound h
  grows w l (segment t n last xs) sound h = segmented w l t n last xs sound h
  grows w l (group xs) sound h = groups_on w l xs sound h
  grows w l (time xs) sound h = clocked w l xs sound h
  grows w l (find_name n) sound h = still l
  grows w l (next_place c) sound h = still l
  grows w l (body_of n) sound h = still l
  grows w l card sound h = still l
  grows w l (card_byte i) sound h = still l
  grows w l slot_size sound h = still l

  runs_on : (cs : List Call) (w : World) (l : Ledger) → Sound w.state → Follows m w l → (ledger l cs (replies w cs)).history ≡ l.history ++ all_effects w cs
  runs_on [] w l sound h = still l
  runs_on (c ∷ cs) w l sound h =
      let v : World = (step w c).1 in
      runs_on cs v (entered l c (step w c).0) (sound_step w c sound) (nexts m keeps w l c sound h)
      ∙ (ap (λ es. es ++ all_effects v cs) (grows w l c sound h) ∙ append_assoc l.history (effects w c) (all_effects v cs))

  -- from a history without an entry it is just what took effect
  pub told_runs : (cs : List Call) (w : World) (l : Ledger) → Sound w.state → Follows m w l → (ledger l cs (replies w cs)).history ≡ l.history ++ all_effects w cs
  told_runs cs w l sound h = runs_on cs w l sound h
