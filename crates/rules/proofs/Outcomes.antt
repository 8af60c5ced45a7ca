-- What takes effect in a call is what the display shows of it, and an accepted time field answers how many that are.
use Rattle.std.proofs.Common.{◌≡◌, ℕ, zero, suc, ◌+◌, ◌-◌, Bool, eqb, leb, List, [], length, Some, None, Option, Ok, Err, Result, sym, refl, ap, ◌∙◌, ap₂, arith}
use Rattle.datagroup.specs.Groups as groups
use Rattle.datagroup.specs.Groups.{Group, group_of}
use Rattle.display.specs.Meaning.{Meaning}
use Rattle.header.specs.Headers.{HeaderRecord, header_of}
use Rattle.header.specs.declared.kinds.Category.{Category}
use Rattle.header.specs.declared.kinds.Kind.{Kind}
use Rattle.header.specs.declared.kinds.Kind.TheVariants.{Image, Update}
use Rattle.moment.specs.Field.{time_of}
use Rattle.moment.specs.declared.times.Time.{Time}
use Rattle.moment.specs.declared.times.Time.TheVariants.{Now, At}
use Rattle.refusal.specs.declared.Fault.{Fault}
use Rattle.rules.proofs.Finds.{cond_two, on_some_two, on_arriving_two, on_some_both}
use Rattle.rules.proofs.Passes.{show_all_append}
use Rattle.rules.specs.Assembly.{put, received, filed, on_landing, segment_of, segment_step}
use Rattle.rules.specs.Calls.{header, segment, group, time, find_name, next_place, body_of, card, card_byte, slot_size, Reply, answered, counted, refused}
use Rattle.rules.specs.Clocks.{tick, ticked, walk, walked, on_setting, on_reading, setting_step, reading_step, time_step}
use Rattle.rules.specs.Effects.{arming_effects, tick_effects, walk_effects, on_setting_effects, on_reading_effects, setting_effects, reading_effects, time_effects, by_kind_effects, on_header_effects, header_effects, filed_effects, landing_effects, segment_effects, on_group_effects, group_effects, effects, amended_effects}
use Rattle.rules.specs.Groups.{on_group, group_step}
use Rattle.rules.specs.Headers.{slot_for, recategorised, by_kind, on_header, header_step, resent, amended}
use Rattle.rules.specs.Laws.{EffectsAreShown, CountsAreEffects}
use Rattle.rules.specs.Questions.{body_of_number}
use Rattle.rules.specs.Runs.{step, as_bytes}
use Rattle.rules.specs.Triggers.{Verdict, nothing, effect, late, wait, verdict, Effect}
use Rattle.rules.specs.Worlds.{World, slot_at, fits_memory, with_state, vacate, categorised, show_all, armed}
use Rattle.rules.specs.declared.answers.Answer.{Answer}
use Rattle.slots.specs.Searches.{first_slot}
use Rattle.slots.specs.Segments.{landing, grown, complete}
use Rattle.slots.specs.Slides.{Object, held, slide_of, with_progress, image_of, comes, comes_again, named, versioned, sent_under, passed, number_in}
use Rattle.slots.specs.declared.progress.Landing.{Landing}
use Rattle.slots.specs.declared.progress.Landing.TheVariants as landings
use Rattle.slots.specs.declared.progress.Segment.{Segment}
use Rattle.std.proofs.lemmas.Bool.{cond_both}
use Rattle.std.proofs.lemmas.List.{length-append, length-map}

-- an outcome and what takes effect in it: the display of the one shows the other
abbrev Told : {A : Type 0} → World → A × World → List Effect → Type 0
Told w o es = o.1.display ≡ show_all w.display es

arming_shown : (v : Verdict) (k : ℕ) (w : World) → (armed v k w).display ≡ show_all w.display (arming_effects v k w)
arming_shown nothing k w = refl
arming_shown effect k w = refl
arming_shown late k w = refl
arming_shown (wait m) k w = refl

filed_shown : (k : ℕ) (o : Object) (w : World) → (filed k o w).display ≡ show_all w.display (filed_effects k o w)
filed_shown k o w =
    arming_shown (verdict w.state.clock o.image.trigger) k (categorised o.image.category o.number (with_state (put k (held (slide_of o)) (vacate (named o.image.name) w.state)) w))

recategorised_display : (c : Option Category) (n : ℕ) (w : World) → (recategorised c n w).display ≡ w.display
recategorised_display None n w = refl
recategorised_display (Some c) n w = refl

amended_shown : (k : ℕ) (h : HeaderRecord) (w : World) → Told w (amended k h w) (amended_effects k h w)
amended_shown k h w =
    let v : Verdict = verdict w.state.clock h.trigger in
    let n : ℕ = number_in (slot_at w.state k) in
    let u : World = recategorised h.category n w in
    arming_shown v k u ∙ ap (λ (d : Meaning). show_all d (arming_effects v k u)) (recategorised_display h.category n w)

walk_shown : (n : ℕ) (w : World) → (walk n w).display ≡ show_all w.display (walk_effects n w)
unfolding tick tick_effects
walk_shown zero w = refl
walk_shown (suc n) w =
    ap (λ (d : Meaning). show_all d (tick_effects (walk n w))) (walk_shown n w)
    ∙ sym (show_all_append (walk_effects n w) (tick_effects (walk n w)) w.display)

walk_counted : (n : ℕ) (w : World) → walked n w ≡ length (walk_effects n w)
unfolding ticked tick_effects
walk_counted zero w = refl
walk_counted (suc n) w =
    ap₂ ◌+◌ (walk_counted n w) (sym (length-map _ _))
    ∙ sym (length-append (walk_effects n w) (tick_effects (walk n w)))

module _ (w : World) where
  by_kind_shown : (k : Kind) (t : ℕ) (h : HeaderRecord) → Told w (by_kind k w t h) (by_kind_effects k w t h)
  by_kind_shown Image t h =
      let i = image_of h in
      let P : Answer × World → Type 0 = λ o. Told w o [] in
      let Q : Answer × World → List Effect → Type 0 = λ o es. Told w o es in
      on_some_two Q (first_slot (versioned i.name i.version) w.state.slots) _ _ _ _
      (on_some_both P (first_slot (comes_again t i) w.state.slots) _ _
      (cond_both (passed w.state.clock i.expire) _ _ P (λ e. refl)
      (λ e. cond_both (eqb w.state.given 4294967295) _ _ P (λ d. refl) (λ d. on_some_both P (slot_for w.state t) _ _ refl (λ k z. refl))))
      (λ k z. refl))
      (λ k z.
      cond_two Q (sent_under t (slot_at w.state k)) _ _ _ _ (λ e. refl)
      (λ e. cond_two Q (passed w.state.clock i.expire) _ _ _ _ (λ d. refl) (λ d. amended_shown k h (with_state (resent k t w.state) w))))
  by_kind_shown Update t h =
      on_some_two (λ (o : Answer × World) (es : List Effect). Told w o es) (first_slot (named h.name) w.state.slots) _ _ _ _ refl (λ k z. amended_shown k h w)

  on_header_shown : (r : Result HeaderRecord Fault) (t : ℕ) → Told w (on_header r w t) (on_header_effects r w t)
  on_header_shown (Err e) t = refl
  on_header_shown (Ok h) t = by_kind_shown h.kind t h

  header_shown : (t : ℕ) (xs : List ℕ) → Told w (header_step w t xs) (header_effects w t xs)
  unfolding header_step header_effects
  header_shown t xs =
      cond_two (λ (o : Answer × World) (es : List Effect). Told w o es) (fits_memory w) _ _ _ _ (λ e. on_header_shown (header_of xs w.state.room) t) (λ e. refl)

  landing_shown : (l : Landing) (k : ℕ) (o : Object) (g : Segment) (xs : List ℕ) → Told w (on_landing l k o g xs w) (landing_effects l k o g xs w)
  landing_shown landings.Misfit k o g xs = refl
  landing_shown landings.Again k o g xs = refl
  landing_shown (landings.At at) k o g xs =
      cond_two (λ (x : Answer × World) (es : List Effect). Told w x es) (complete (grown o.progress g)) _ _ _ _ (λ e. filed_shown k (with_progress o (grown o.progress g)) (received k o g at xs w)) (λ e. refl)

  segment_shown : (t n : ℕ) (last : Bool) (xs : List ℕ) → Told w (segment_step w t n last xs) (segment_effects w t n last xs)
  unfolding segment_step segment_effects
  segment_shown t n last xs =
      let P : Answer × World → List Effect → Type 0 = λ o es. Told w o es in
      cond_two P (fits_memory w) _ _ _ _
      (λ e. on_some_two P (first_slot (comes t) w.state.slots) _ _ _ _ refl (λ k z. on_arriving_two P (slot_at w.state k) _ _ _ _ refl (λ o i. landing_shown (landing o.progress (segment_of n last xs)) k o (segment_of n last xs) xs)))
      (λ e. refl)

  on_group_shown : (r : Result Group Fault) → Told w (on_group r w) (on_group_effects r w)
  on_group_shown (Err e) = refl
  on_group_shown (Ok (groups.header t xs)) = header_shown t xs
  on_group_shown (Ok (groups.segment t n last xs)) = segment_shown t n last xs
  on_group_shown (Ok groups.other) = refl

  group_shown : (xs : List ℕ) → Told w (group_step w xs) (group_effects w xs)
  unfolding group_step group_effects
  group_shown xs =
      cond_two (λ (o : Reply × World) (es : List Effect). Told w o es) (fits_memory w) _ _ _ _ (λ e. on_group_shown (group_of xs)) (λ e. refl)

  on_setting_shown : (r : Result Time Fault) → Told w (on_setting r w) (on_setting_effects r w)
  on_setting_shown (Err e) = refl
  on_setting_shown (Ok Now) = refl
  on_setting_shown (Ok (At t)) = refl

  on_reading_shown : (r : Result Time Fault) → Told w (on_reading r w) (on_reading_effects r w)
  on_reading_shown (Err e) = refl
  on_reading_shown (Ok Now) = refl
  on_reading_shown (Ok (At t)) =
      cond_two (λ (o : Reply × World) (es : List Effect). Told w o es) (leb w.state.clock t) _ _ _ _ (λ e. walk_shown (t - w.state.clock) w) (λ e. refl)

  time_shown : (xs : List ℕ) → Told w (time_step w xs) (time_effects w xs)
  unfolding setting_step reading_step setting_effects reading_effects
  time_shown xs =
      let P : Reply × World → List Effect → Type 0 = λ o es. Told w o es in
      cond_two P (eqb w.state.clock 0) _ _ _ _
      (λ e. cond_two P (fits_memory w) _ _ _ _ (λ d. on_setting_shown (time_of xs)) (λ d. refl))
      (λ e. cond_two P (fits_memory w) _ _ _ _ (λ d. on_reading_shown (time_of xs)) (λ d. refl))

pub shown : EffectsAreShown
unfolding step effects
shown w (header t xs) = header_shown w t xs
shown w (segment t n last xs) = segment_shown w t n last xs
shown w (group xs) = group_shown w xs
shown w (time xs) = time_shown w xs
shown w (find_name n) = refl
shown w (next_place c) = refl
shown w (body_of n) = refl
shown w card = refl
shown w (card_byte i) = refl
shown w slot_size = refl

-- a reply that counts, if it does, counts these
record Counts (o : Reply) (es : List Effect) : Type 0 where
  rightly : (n : ℕ) → o ≡ counted n → n ≡ length es

is_counted : (n : ℕ) (es : List Effect) → n ≡ length es → Counts (counted n) es
is_counted n es h = record { rightly = λ k e. let q : n ≡ k = cc in sym q ∙ h }

refusal : (d : Fault) (es : List Effect) → Counts (refused d) es
refusal d es = record { rightly = λ n e. let z : ◌≡◌ {A = ℕ} 0 1 = cc in absurd (omega arith) }

answer : (a : Answer) (es : List Effect) → Counts (answered a) es
answer a es = record { rightly = λ n e. let z : ◌≡◌ {A = ℕ} 0 1 = cc in absurd (omega arith) }

-- a data group counts nothing
in_group : (w : World) (r : Result Group Fault) → Counts (on_group r w).0 (on_group_effects r w)
in_group w (Err e) = answer _ _
in_group w (Ok (groups.header t xs)) = answer _ _
in_group w (Ok (groups.segment t n last xs)) = answer _ _
in_group w (Ok groups.other) = record { rightly = λ n e. let z : ◌≡◌ {A = ℕ} 0 1 = cc in absurd (omega arith) }

in_groups : (w : World) (xs : List ℕ) → Counts (group_step w xs).0 (group_effects w xs)
unfolding group_step group_effects
in_groups w xs =
    cond_two (λ (o : Reply × World) (es : List Effect). Counts o.0 es) (fits_memory w) _ _ _ _ (λ e. in_group w (group_of xs)) (λ e. answer _ _)

settings : (w : World) (r : Result Time Fault) → Counts (on_setting r w).0 (on_setting_effects r w)
settings w (Err d) = refusal d _
settings w (Ok Now) = refusal _ _
settings w (Ok (At t)) = is_counted _ _ (sym (length-map _ _))

readings : (w : World) (r : Result Time Fault) → Counts (on_reading r w).0 (on_reading_effects r w)
readings w (Err d) = refusal d _
readings w (Ok Now) = refusal _ _
readings w (Ok (At t)) =
    cond_two (λ (o : Reply × World) (es : List Effect). Counts o.0 es) (leb w.state.clock t) _ _ _ _ (λ e. is_counted _ _ (walk_counted (t - w.state.clock) w)) (λ e. refusal _ _)

times : (w : World) (xs : List ℕ) → Counts (time_step w xs).0 (time_effects w xs)
unfolding setting_step reading_step setting_effects reading_effects
times w xs =
    let P : Reply × World → List Effect → Type 0 = λ o es. Counts o.0 es in
    cond_two P (eqb w.state.clock 0) _ _ _ _
    (λ e. cond_two P (fits_memory w) _ _ _ _ (λ d. settings w (time_of xs)) (λ d. refusal _ _))
    (λ e. cond_two P (fits_memory w) _ _ _ _ (λ d. readings w (time_of xs)) (λ d. refusal _ _))

pub counted_effects : CountsAreEffects
unfolding step effects
counted_effects w (header t xs) n e = let z : ◌≡◌ {A = ℕ} 0 1 = cc in absurd (omega arith)
counted_effects w (segment t i last xs) n e = let z : ◌≡◌ {A = ℕ} 0 1 = cc in absurd (omega arith)
counted_effects w (group xs) n e = (in_groups w xs).rightly n e
counted_effects w (time xs) n e = (times w xs).rightly n e
counted_effects w (find_name i) n e = let z : ◌≡◌ {A = ℕ} 0 1 = cc in absurd (omega arith)
counted_effects w (next_place c) n e = let z : ◌≡◌ {A = ℕ} 0 1 = cc in absurd (omega arith)
counted_effects w (body_of i) n e = go (body_of_number w i) e
  where
    go : (r : Result (List ℕ) Fault) → as_bytes r ≡ counted n → n ≡ 0
    go (Ok xs) e = let z : ◌≡◌ {A = ℕ} 0 1 = cc in absurd (omega arith)
    go (Err d) e = let z : ◌≡◌ {A = ℕ} 0 1 = cc in absurd (omega arith)
counted_effects w card n e = let z : ◌≡◌ {A = ℕ} 0 1 = cc in absurd (omega arith)
counted_effects w (card_byte i) n e = let z : ◌≡◌ {A = ℕ} 0 1 = cc in absurd (omega arith)
counted_effects w slot_size n e = let z : ◌≡◌ {A = ℕ} 0 1 = cc in absurd (omega arith)
