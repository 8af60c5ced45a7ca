-- The clock moves only with time fields: it is 0 until a setting is accepted, and above 0 from then on.
use Rattle.std.proofs.Common.{◌≡◌, ℕ, ◌-◌, ◌<◌, ◌≤◌, Bool, eqb, leb, List, Ok, Err, Result, sym, refl, ap, ◌∙◌, subst, arith}
use Rattle.calls.specs.Plain.{call_of}
use Rattle.calls.specs.declared.Call.{Call}
use Rattle.calls.specs.declared.Call.TheVariants as calls
use Rattle.datagroup.specs.Groups as groups
use Rattle.datagroup.specs.Groups.{Group, group_of}
use Rattle.header.proofs.Moments.{read_in_time}
use Rattle.header.specs.Headers.{HeaderRecord, header_of}
use Rattle.header.specs.Sound.{InTime}
use Rattle.header.specs.declared.kinds.Kind.{Kind}
use Rattle.header.specs.declared.kinds.Kind.TheVariants.{Image, Update}
use Rattle.moment.specs.Field.{time_of}
use Rattle.moment.specs.declared.times.Time.{Time}
use Rattle.moment.specs.declared.times.Time.TheVariants as times
use Rattle.refusal.specs.declared.Fault.{Fault}
use Rattle.replay.proofs.Stepped.{step_reading}
use Rattle.replay.specs.Ends.{NoTime}
use Rattle.rules.proofs.Kept.{recategorised_clock}
use Rattle.rules.proofs.Finds.{on_some_both, on_arriving_both}
use Rattle.rules.proofs.Readings.{walk_clock}
use Rattle.rules.specs.Assembly.{on_landing, segment_of, segment_step}
use Rattle.rules.specs.Calls.{Reply, time, counted, refused}
use Rattle.rules.specs.Clocks.{on_setting, on_reading, setting_step, reading_step}
use Rattle.rules.specs.Groups.{on_group, group_step}
use Rattle.rules.specs.Headers.{slot_for, by_kind, on_header, header_step, resent, amended}
use Rattle.rules.specs.Runs.{step}
use Rattle.rules.specs.Triggers.{Verdict, nothing, effect, late, wait}
use Rattle.rules.specs.Worlds.{World, slot_at, fits_memory, with_state, armed}
use Rattle.rules.specs.declared.answers.Answer.{Answer}
use Rattle.rules.specs.declared.answers.Answer.TheVariants.{Refused}
use Rattle.slots.specs.Searches.{first_slot}
use Rattle.slots.specs.Segments.{landing, grown, complete}
use Rattle.slots.specs.Slides.{Object, image_of, comes, comes_again, named, versioned, sent_under, passed}
use Rattle.slots.specs.declared.progress.Landing.{Landing}
use Rattle.slots.specs.declared.progress.Landing.TheVariants.{Misfit, Again, At}
use Rattle.slots.specs.declared.progress.Segment.{Segment}
use Rattle.std.proofs.lemmas.Bool.{cond_both}
use Rattle.std.specs.Result.{result_ok}

armed_clock : (v : Verdict) (k : ℕ) (w : World) → (armed v k w).state.clock ≡ w.state.clock
armed_clock nothing k w = refl
armed_clock effect k w = refl
armed_clock late k w = refl
armed_clock (wait m) k w = refl

-- an outcome that leaves the clock
record Leaves {A : Type 0} (w : World) (o : A × World) : Type 0 where
  same : o.1.state.clock ≡ w.state.clock

-- an outcome with a clock no lower
record Climbs {A : Type 0} (w : World) (o : A × World) : Type 0 where
  higher : w.state.clock ≤ o.1.state.clock

-- an outcome that, if it counts shows, has a clock above 0
record Starts (o : Reply × World) : Type 0 where
  above : (n : ℕ) → o.0 ≡ counted n → 0 < o.1.state.clock

still : {A : Type 0} (w : World) (a : A) → Leaves w (a, w)
still w a = record { same = refl }

amended_clock : (w u : World) (k : ℕ) (h : HeaderRecord) → u.state.clock ≡ w.state.clock → Leaves w (amended k h u)
amended_clock w u k h e = record { same = armed_clock _ k _ ∙ (recategorised_clock h.category _ u ∙ e) }

module _ (w : World) where
  by_kind_clock : (k : Kind) (t : ℕ) (h : HeaderRecord) → Leaves w (by_kind k w t h)
  by_kind_clock Image t h =
      let i = image_of h in
      let P : Answer × World → Type 0 = λ o. Leaves w o in
      on_some_both P (first_slot (versioned i.name i.version) w.state.slots) _ _
      (on_some_both P (first_slot (comes_again t i) w.state.slots) _ _
      (cond_both (passed w.state.clock i.expire) _ _ P (λ e. still w _)
      (λ e. cond_both (eqb w.state.given 4294967295) _ _ P (λ d. still w _) (λ d. on_some_both P (slot_for w.state t) _ _ (still w _) (λ k z. record { same = refl }))))
      (λ k z. still w _))
      (λ k z.
      cond_both (sent_under t (slot_at w.state k)) _ _ P (λ e. still w _)
      (λ e. cond_both (passed w.state.clock i.expire) _ _ P (λ d. still w _) (λ d. amended_clock w (with_state (resent k t w.state) w) k h refl)))
  by_kind_clock Update t h =
      on_some_both (λ (o : Answer × World). Leaves w o) (first_slot (named h.name) w.state.slots) _ _ (still w _) (λ k z. amended_clock w w k h refl)

  on_header_clock : (r : Result HeaderRecord Fault) (t : ℕ) → Leaves w (on_header r w t)
  on_header_clock (Err e) t = still w (Refused e)
  on_header_clock (Ok h) t = by_kind_clock h.kind t h

  header_clock : (t : ℕ) (xs : List ℕ) → Leaves w (header_step w t xs)
  unfolding header_step
  header_clock t xs =
      cond_both (fits_memory w) _ _ (λ (o : Answer × World). Leaves w o) (λ e. on_header_clock (header_of xs w.state.room) t) (λ e. still w _)

  landing_clock : (l : Landing) (k : ℕ) (o : Object) (g : Segment) (xs : List ℕ) → Leaves w (on_landing l k o g xs w)
  landing_clock Misfit k o g xs = still w _
  landing_clock Again k o g xs = still w _
  landing_clock (At at) k o g xs =
      cond_both (complete (grown o.progress g)) _ _ (λ (x : Answer × World). Leaves w x) (λ e. record { same = armed_clock _ k _ }) (λ e. record { same = refl })

  segment_clock : (t n : ℕ) (last : Bool) (xs : List ℕ) → Leaves w (segment_step w t n last xs)
  unfolding segment_step
  segment_clock t n last xs =
      let P : Answer × World → Type 0 = λ o. Leaves w o in
      cond_both (fits_memory w) _ _ P
      (λ e. on_some_both P (first_slot (comes t) w.state.slots) _ _ (still w _) (λ k z. on_arriving_both P (slot_at w.state k) _ _ (still w _) (λ o i. landing_clock (landing o.progress (segment_of n last xs)) k o (segment_of n last xs) xs)))
      (λ e. still w _)

  on_group_clock : (r : Result Group Fault) → Leaves w (on_group r w)
  on_group_clock (Err e) = still w _
  on_group_clock (Ok (groups.header t xs)) = record { same = (header_clock t xs).same }
  on_group_clock (Ok (groups.segment t n last xs)) = record { same = (segment_clock t n last xs).same }
  on_group_clock (Ok groups.other) = still w _

  group_clock : (xs : List ℕ) → Leaves w (group_step w xs)
  unfolding group_step
  group_clock xs =
      cond_both (fits_memory w) _ _ (λ (o : Reply × World). Leaves w o) (λ e. on_group_clock (group_of xs)) (λ e. still w _)

  -- a call that is no time field leaves the clock
  other_clock : (c : Call) → NoTime c → (step w (call_of c)).1.state.clock ≡ w.state.clock
  unfolding step
  other_clock (calls.Header t xs) h = (header_clock t xs.now).same
  other_clock (calls.Segment t s) h = (segment_clock t s.number s.last s.bytes.now).same
  other_clock (calls.Group xs) h = (group_clock xs.now).same
  other_clock (calls.Time xs) h = absurd h
  other_clock (calls.FindName n) h = refl
  other_clock (calls.NextPlace p) h = refl
  other_clock (calls.Body n) h = refl
  other_clock calls.Card h = refl
  other_clock (calls.CardByte i) h = refl
  other_clock calls.SlotSize h = refl

  pub unset_on : (v : World) (c : Call) (y : Reply) → NoTime c → w.state.clock ≡ 0 → (y, v) ≡ step w (call_of c) → v.state.clock ≡ 0
  unset_on v c y h z e = ap (λ (o : Reply × World). o.1.state.clock) e ∙ (other_clock c h ∙ z)

  on_reading_clock : (r : Result Time Fault) → Climbs w (on_reading r w)
  on_reading_clock (Err e) = record { higher = omega arith }
  on_reading_clock (Ok times.Now) = record { higher = omega arith }
  on_reading_clock (Ok (times.At t)) =
      cond_both (leb w.state.clock t) _ _ (λ (o : Reply × World). Climbs w o) (λ e. record { higher = omega (arith, walk_clock (t - w.state.clock) w) }) (λ e. record { higher = omega arith })

  reading_clock : (xs : List ℕ) → Climbs w (reading_step w xs)
  unfolding reading_step
  reading_clock xs =
      cond_both (fits_memory w) _ _ (λ (o : Reply × World). Climbs w o) (λ e. on_reading_clock (time_of xs)) (λ e. record { higher = omega arith })

  refused_not : (e : Fault) (x : World) → Starts (refused e, x)
  refused_not e x = record { above = λ n q. let z : ◌≡◌ {A = ℕ} 0 1 = cc in absurd (omega arith) }

  on_setting_clock : (r : Result Time Fault) → InTime (result_ok r) → Starts (on_setting r w)
  on_setting_clock (Err e) h = refused_not e w
  on_setting_clock (Ok times.Now) h = refused_not _ w
  on_setting_clock (Ok (times.At t)) h = record { above = λ n q. h.0 }

  setting_clock : (xs : List ℕ) → Starts (setting_step w xs)
  unfolding setting_step
  setting_clock xs =
      cond_both (fits_memory w) _ _ Starts (λ e. on_setting_clock (time_of xs) (read_in_time xs)) (λ e. refused_not _ w)

  -- a setting that is accepted leaves the clock above 0
  pub started_above : (xs : List ℕ) (n : ℕ) (v : World) → (counted n, v) ≡ setting_step w xs → 0 < v.state.clock
  started_above xs n v e =
      subst (λ (o : Reply × World). 0 < o.1.state.clock) (sym e) ((setting_clock xs).above n (sym (ap (λ (o : Reply × World). o.0) e)))

  reading_on : (xs : List ℕ) → 0 < w.state.clock → 0 < (step w (time xs)).1.state.clock
  reading_on xs h =
      subst (λ (o : Reply × World). 0 < o.1.state.clock) (step_reading w xs (reading_step w xs) h refl) (omega (arith, (reading_clock xs).higher))

  -- once it runs it runs on
  pub running_on : (c : Call) → 0 < w.state.clock → 0 < (step w (call_of c)).1.state.clock
  running_on (calls.Header t xs) h = omega (arith, other_clock (calls.Header t xs) tt)
  running_on (calls.Segment t s) h = omega (arith, other_clock (calls.Segment t s) tt)
  running_on (calls.Group xs) h = omega (arith, other_clock (calls.Group xs) tt)
  running_on (calls.Time xs) h = reading_on xs.now h
  running_on (calls.FindName n) h = omega (arith, other_clock (calls.FindName n) tt)
  running_on (calls.NextPlace p) h = omega (arith, other_clock (calls.NextPlace p) tt)
  running_on (calls.Body n) h = omega (arith, other_clock (calls.Body n) tt)
  running_on calls.Card h = omega (arith, other_clock calls.Card tt)
  running_on (calls.CardByte i) h = omega (arith, other_clock (calls.CardByte i) tt)
  running_on calls.SlotSize h = omega (arith, other_clock calls.SlotSize tt)
