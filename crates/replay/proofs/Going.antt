-- Calls that are gone through one after the other.
use Rattle.std.proofs.Common.{◌≡◌, ℕ, ◌+◌, ◌<◌, ◌≤◌, List, [], ◌∷◌, ◌++◌, map, length, get_or, take, drop, min, sym, ap, ap₂, subst, ◌∙◌, append_assoc, append-nil, vec_items, vec_len, Ok, Err, Result, OnOk, Bor, arith}
use Rattle.calls.specs.Plain.{call_of, reply_of}
use Rattle.calls.specs.declared.Call as code-calls
use Rattle.calls.specs.declared.Call.TheVariants.{Time}
use Rattle.calls.specs.declared.Reply as code-replies
use Rattle.display.specs.Meaning.{Meaning, Keeps}
use mathlib.Core.Path.{subst₃}
use Rattle.replay.proofs.Stepped.{step_setting, setting_is}
use Rattle.replay.specs.Ends.{Ran, Runs, Replays, world_at_end, display_in}
use Rattle.replay.specs.declared.replays.Replayed.{Replayed}
use Rattle.rules.proofs.Reaching.{reached_on}
use Rattle.rules.proofs.Stand.{laws}
use Rattle.rules.proofs.Splits.{after_append, replies_append, effects_append, length_replies}
use Rattle.rules.specs.Calls.{Call, Reply}
use Rattle.rules.specs.Clocks.{setting_step}
use Rattle.rules.specs.Effects.{setting_effects, effects, all_effects}
use Rattle.rules.specs.Laws.{RunLaws}
use Rattle.rules.specs.Reached.{Reached}
use Rattle.rules.specs.Runs.{opened, after, replies, step}
use Rattle.rules.specs.Worlds.{World}
use Rattle.std.specs.declared.alloc.AllocError.{AllocError}
use Rattle.std.proofs.Math.Seq.{take-append-add}
use Rattle.std.proofs.lemmas.List.{take_more, take-append-drop, take-map, take_min, take_all, length-take, length-take-le, length-map, map-append}

-- the first calls of a list and the first of the others
pub take_on : {X : Type 0} (i n : ℕ) (xs : List X) → i ≤ length xs → take i xs ++ take n (drop i xs) ≡ take (i + n) xs
take_on i n xs h =
    sym (take-append-add (take i xs) (drop i xs) n) ∙ ap₂ (λ k zs. take (k + n) zs) (length-take-le i xs h) (take-append-drop i xs)

module _ {D : Type 0} (mean : D → Meaning) (told : D → ℕ → ℕ → List ℕ → D → Type 0) where
  -- calls, and others behind them
  pub goes_on : (w : World) (d : D) (xs ys : List Call) (was : List Reply) (x y : Replayed D) (m n : List ℕ) → Ran mean told w d xs was x m → Ran mean told (world_at_end mean told x.receiver m) (display_in x.receiver) ys (map reply_of (vec_items x.replies)) y n → Ran mean told w d (xs ++ ys) was y n
  goes_on w d xs ys was x y m n h k = record {
    replied = k.replied ∙ ap₂ (λ rs v. rs ++ replies v ys) h.replied h.left ∙ append_assoc was (replies w xs) (replies (after w xs) ys) ∙ ap (λ rs. was ++ rs) (sym (replies_append xs ys w));
    left = k.left ∙ ap (λ v. after v ys) h.left ∙ sym (after_append xs ys w);
    shown =
        subst (λ es. Reached told d es (display_in y.receiver)) (ap (λ v. all_effects w xs ++ all_effects v ys) h.left ∙ sym (effects_append xs ys w))
        (reached_on told (all_effects w xs) (all_effects (world_at_end mean told x.receiver m) ys) d (display_in x.receiver) (display_in y.receiver) h.shown k.shown);
  }

  -- the same of the code's calls
  behind : (w : World) (d : D) (xs ys : List code-calls.Call) (was : List Reply) (x y : Replayed D) (m n : List ℕ) → Ran mean told w d (map call_of xs) was x m → Ran mean told (world_at_end mean told x.receiver m) (display_in x.receiver) (map call_of ys) (map reply_of (vec_items x.replies)) y n → Ran mean told w d (map call_of (xs ++ ys)) was y n
  behind w d xs ys was x y m n h k =
      subst (λ zs. Ran mean told w d zs was y n) (sym (map-append call_of xs ys)) (goes_on w d (map call_of xs) (map call_of ys) was x y m n h k)

  -- one call
  pub goes_one : (w : World) (d : D) (c : Call) (y : Reply) (was : List Reply) (x : Replayed D) (m : List ℕ) → map reply_of (vec_items x.replies) ≡ was ++ y ∷ [] → (y, world_at_end mean told x.receiver m) ≡ step w c → Reached told d (effects w c) (display_in x.receiver) → Ran mean told w d (c ∷ []) was x m
  goes_one w d c y was x m e q r = record {
    replied = e ∙ ap (λ (o : Reply × World). was ++ o.0 ∷ []) q;
    left = ap (λ (o : Reply × World). o.1) q;
    shown = subst (λ es. Reached told d es (display_in x.receiver)) (sym (append-nil (effects w c))) r;
  }

  -- the first calls of a list, and the next
  pub goes_further : (w : World) (d : D) (cs : List code-calls.Call) (i : ℕ) (k : code-calls.Call) (z : code-replies.Reply) (was : List Reply) (x y : Replayed D) (m n : List ℕ) → i < length cs → Ran mean told w d (map call_of (take i cs)) was x m → vec_items y.replies ≡ vec_items x.replies ++ z ∷ [] → (reply_of z, world_at_end mean told y.receiver n) ≡ step (world_at_end mean told x.receiver m) (call_of (get_or cs i k)) → Reached told (display_in x.receiver) (effects (world_at_end mean told x.receiver m) (call_of (get_or cs i k))) (display_in y.receiver) → Ran mean told w d (map call_of (take (i + 1) cs)) was y n
  goes_further w d cs i k z was x y m n l h e q r =
      let one = goes_one (world_at_end mean told x.receiver m) (display_in x.receiver) (call_of (get_or cs i k)) (reply_of z) (map reply_of (vec_items x.replies)) y n (ap (map reply_of) e ∙ map-append reply_of (vec_items x.replies) (z ∷ [])) q r in
      let next : map call_of (take (i + 1) cs) ≡ map call_of (take i cs) ++ call_of (get_or cs i k) ∷ [] = ap (map call_of) (take_more cs i k l) ∙ map-append call_of (take i cs) (get_or cs i k ∷ []) in
      subst (λ zs. Ran mean told w d zs was y n) (sym next) (goes_on w d (map call_of (take i cs)) (call_of (get_or cs i k) ∷ []) was x y m n h one)

  -- and that is a setting
  pub set_further : (w : World) (d : D) (cs : List code-calls.Call) (i : ℕ) (k : code-calls.Call) (b : Bor (List ℕ)) (z : code-replies.Reply) (was : List Reply) (x y : Replayed D) (m : List ℕ) → i < length cs → get_or cs i k ≡ Time b → (world_at_end mean told x.receiver m).state.clock ≡ 0 → Ran mean told w d (map call_of (take i cs)) was x m → vec_items y.replies ≡ vec_items x.replies ++ z ∷ [] → (reply_of z, world_at_end mean told y.receiver m) ≡ setting_step (world_at_end mean told x.receiver m) b.now → Reached told (display_in x.receiver) (setting_effects (world_at_end mean told x.receiver m) b.now) (display_in y.receiver) → Ran mean told w d (map call_of (take (i + 1) cs)) was y m
  set_further w d cs i k b z was x y m l is unset h e q r =
      let u : World = world_at_end mean told x.receiver m in
      let s = step_setting u b.now (reply_of z, world_at_end mean told y.receiver m) unset q ∙ ap (λ c. step u (call_of c)) (sym is) in
      let t = setting_is u b.now unset ∙ ap (λ c. effects u (call_of c)) (sym is) in
      goes_further w d cs i k z was x y m m l h e s (subst (λ es. Reached told (display_in x.receiver) es (display_in y.receiver)) t r)

  -- the first of a list, and then the others: all of them, or some where memory is wanting
  pub runs_on : (w : World) (d : D) (cs : List code-calls.Call) (i : ℕ) (was : List Reply) (y x : Replayed D) (m n : List ℕ) → i ≤ length cs → Ran mean told w d (map call_of (take i cs)) was y m → (r : Result Unit AllocError) → Runs mean told (world_at_end mean told y.receiver m) (display_in y.receiver) (drop i cs) (map reply_of (vec_items y.replies)) x r n → Runs mean told w d cs was x r n
  runs_on w d cs i was y x m n l h (Ok u) r =
      subst (λ zs. Ran mean told w d (map call_of zs) was x n) (take-append-drop i cs) (behind w d (take i cs) (drop i cs) was y x m n h r)
  runs_on w d cs i was y x m n l h (Err e) r =
      (i + r.0, subst (λ zs. Ran mean told w d (map call_of zs) was x n) (take_on i r.0 cs l) (behind w d (take i cs) (take r.0 (drop i cs)) was y x m n h r.1))

-- calls to a fresh receiver over the display d
module _ {D : Type 0} (mean : D → Meaning) (told : D → ℕ → ℕ → List ℕ → D → Type 0) (d : D) (keeps : Keeps (mean d)) (size : ℕ) (memory : List ℕ) where
  replayed : (cs : List Call) (x : Replayed D) (m : List ℕ) → Ran mean told (opened (mean d) size memory) d cs [] x m → Replays mean told d size memory cs x m
  replayed cs x m r =
      let l : RunLaws (mean d) size memory = laws (mean d) keeps size memory in
      record {
        replied = r.replied;
        left = r.left;
        shown = subst (λ es. Reached told d es (display_in x.receiver)) (l.history_is_effects cs) r.shown;
        laws = l;
      }

  -- the first of a list, which are as many as there are replies
  pub first_replayed : (cs : List code-calls.Call) (n : ℕ) (x : Replayed D) (m : List ℕ) → Ran mean told (opened (mean d) size memory) d (map call_of (take n cs)) [] x m → Replays mean told d size memory (take (vec_len x.replies) (map call_of cs)) x m
  first_replayed cs n x m r =
      let ys : List Call = map call_of (take n cs) in
      let long : vec_len x.replies ≡ min n (length cs) =
      x.replies.ok.0 ∙ sym (length-map (vec_items x.replies) reply_of) ∙ ap length r.replied ∙ length_replies ys (opened (mean d) size memory) ∙ length-map (take n cs) call_of ∙ length-take n cs in
      let same : ys ≡ take (vec_len x.replies) (map call_of cs) =
      sym (ap (λ k. take k (map call_of cs)) long ∙ take-map call_of (min n (length cs)) cs ∙ ap (map call_of) (take_min n cs)) in
      subst (λ zs. Replays mean told d size memory zs x m) same (replayed ys x m r)

  module _ (w : World) (c : D) (cs : List code-calls.Call) (was : List Reply) (x : Replayed D) (m : List ℕ) (e : w ≡ opened (mean d) size memory) (q : c ≡ d) (b : was ≡ []) where
    from_here : (ys : List Call) → Ran mean told w c ys was x m → Ran mean told (opened (mean d) size memory) d ys [] x m
    from_here ys h = subst₃ (λ (v : World) (z : D) (rs : List Reply). Ran mean told v z ys rs x m) e q b h

    pub all_replayed : (r : Result Unit AllocError) → Runs mean told w c cs was x r m → OnOk r (Replays mean told d size memory (map call_of cs) x m)
    all_replayed (Ok u) h = replayed (map call_of cs) x m (from_here (map call_of cs) h)
    all_replayed (Err f) h = tt

    pub some_replayed : (r : Result Unit AllocError) → Runs mean told w c cs was x r m → Replays mean told d size memory (take (vec_len x.replies) (map call_of cs)) x m
    some_replayed (Ok u) h =
        first_replayed cs (length cs) x m
        (subst (λ zs. Ran mean told (opened (mean d) size memory) d (map call_of zs) [] x m) (sym (take_all (length cs) cs (omega arith))) (from_here (map call_of cs) h))
    some_replayed (Err f) h = first_replayed cs h.0 x m (from_here (map call_of (take h.0 cs)) h.1)
