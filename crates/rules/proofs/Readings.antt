-- Readings one after the other are one reading.
use Rattle.std.proofs.Common.{◌≡◌, ℕ, zero, suc, ◌+◌, ◌-◌, ◌<◌, ◌≤◌, Bool, true, false, cond, eqb, List, [], ◌∷◌, map, Ok, Result, sym, refl, ap, ◌∙◌, add-zero, add_assoc, add-suc, arith}
use Rattle.moment.specs.Field.{time_of}
use Rattle.moment.specs.declared.times.Time.{Time}
use Rattle.moment.specs.declared.times.Time.TheVariants.{At}
use Rattle.refusal.specs.declared.Fault.{Fault}
use Rattle.rules.specs.Calls.{Call, time, Reply, counted, refused}
use Rattle.rules.specs.Clocks.{walk, walked, tick, ticked, setting_step, reading_step, on_reading}
use Rattle.rules.specs.Laws.{Climbs, NameMoments, total}
use Rattle.rules.specs.Ledgers.{Ledger, ledger, entered, pass, instant, moved_to}
use Rattle.rules.specs.Runs.{after, replies, step}
use Rattle.rules.specs.Worlds.{World, fits_memory}
use Rattle.std.proofs.lemmas.Bool.{le-leb, ne_eqb}

pub walk_clock : (n : ℕ) (w : World) → (walk n w).state.clock ≡ w.state.clock + n
unfolding tick
walk_clock zero w = sym (add-zero w.state.clock)
walk_clock (suc n) w = ap suc (walk_clock n w) ∙ sym (add-suc w.state.clock n)

pub walk_fits : (n : ℕ) (w : World) → fits_memory (walk n w) ≡ fits_memory w
unfolding tick
walk_fits zero w = refl
walk_fits (suc n) w = walk_fits n w

pub walk_add : (m n : ℕ) (w : World) → walk (m + n) w ≡ walk n (walk m w)
walk_add m zero w = rw add-zero
walk_add m (suc n) w = rw add-suc (ap tick (walk_add m n w))

pub walked_add : (m n : ℕ) (w : World) → walked (m + n) w ≡ walked m w + walked n (walk m w)
walked_add m zero w = rw (add-zero m, add-zero (walked m w))
walked_add m (suc n) w =
    rw (add-suc, walk_add m n w, walked_add m n w) (add_assoc (walked m w) (walked n (walk m w)) (ticked (walk n (walk m w))))

-- a reading that is not below the clock is a walk to its moment
pub step_time : (w : World) (f : List ℕ) (t : ℕ) → fits_memory w ≡ true → time_of f ≡ Ok (At t) → 0 < w.state.clock → w.state.clock ≤ t → step w (time f) ≡ (counted (walked (t - w.state.clock) w), walk (t - w.state.clock) w)
unfolding step reading_step
step_time w f t fits e h k =
    rw (ne_eqb w.state.clock 0 (omega arith), fits) (ap (λ (r : Result Time Fault). on_reading r w) e ∙ rw (le-leb w.state.clock t k))

-- an accepted one was handed memory that fits
pub accepted : (w : World) (f : List ℕ) (n : ℕ) → (step w (time f)).0 ≡ counted n → fits_memory w ≡ true
unfolding step setting_step reading_step
accepted w f n h = go (eqb w.state.clock 0) (fits_memory w) _ _ _ _ h
  where
    go : (a b : Bool) (x y : Reply × World) (d e : Fault) → (cond a (cond b x (refused d, w)) (cond b y (refused e, w))).0 ≡ counted n → b ≡ true
    go a true x y d e h = refl
    go true false x y d e h = let z : ◌≡◌ {A = ℕ} 0 1 = cc in absurd (omega arith)
    go false false x y d e h = let z : ◌≡◌ {A = ℕ} 0 1 = cc in absurd (omega arith)

pub pass_clock : (n : ℕ) (l : Ledger) → (pass n l).clock ≡ l.clock + n
unfolding instant
pass_clock zero l = sym (add-zero l.clock)
pass_clock (suc n) l = ap suc (pass_clock n l) ∙ sym (add-suc l.clock n)

pub pass_add : (m n : ℕ) (l : Ledger) → pass (m + n) l ≡ pass n (pass m l)
pass_add m zero l = rw add-zero
pass_add m (suc n) l = rw add-suc (ap instant (pass_add m n l))

pub entered_time : (l : Ledger) (f : List ℕ) (t n : ℕ) → time_of f ≡ Ok (At t) → 0 < l.clock → entered l (time f) (counted n) ≡ pass (t - l.clock) l
unfolding entered
entered_time l f t n e h = ap (λ (r : Result Time Fault). moved_to r l) e ∙ rw (ne_eqb l.clock 0 (omega arith))

pub climbs_le : (c t : ℕ) (us : List ℕ) → Climbs c us t → c ≤ t
climbs_le c t [] h = omega arith
climbs_le c t (u ∷ us) h = let k : u ≤ t = climbs_le u t us h.1 in omega arith

-- what a chain of readings comes to
pub record Climbed (w : World) (fs : List (List ℕ)) (t : ℕ) : Type 0 where
  pub world : after w (map time fs) ≡ walk (t - w.state.clock) w
  pub counts : List ℕ
  pub told : replies w (map time fs) ≡ map counted counts
  pub adds : total counts ≡ walked (t - w.state.clock) w
  pub events : (l : Ledger) → l.clock ≡ w.state.clock → ledger l (map time fs) (replies w (map time fs)) ≡ pass (t - w.state.clock) l

split : (c u t : ℕ) → c ≤ u → u ≤ t → t - c ≡ (u - c) + (t - u)
split c u t h k = omega arith

pub climbed : (fs : List (List ℕ)) (us : List ℕ) (w : World) (t : ℕ) → fits_memory w ≡ true → 0 < w.state.clock → NameMoments fs us → Climbs w.state.clock us t → Climbed w fs t
climbed [] [] w t fits p q h =
    let z : t - w.state.clock ≡ 0 = omega arith in
    record {
      world = rw z;
      counts = [];
      told = refl;
      adds = rw z;
      events = λ l e. rw z;
    }
climbed [] (u ∷ us) w t fits p q h = absurd q
climbed (f ∷ fs) [] w t fits p q h = absurd q
climbed (f ∷ fs) (u ∷ us) w t fits p q h =
    let c : ℕ = w.state.clock in
    let w' : World = walk (u - c) w in
    let z : w'.state.clock ≡ u = walk_clock (u - c) w ∙ omega arith in
    let le : u ≤ t = climbs_le u t us h.1 in
    let i : Climbed w' fs t = climbed fs us w' t (walk_fits (u - c) w ∙ fits) (rw z (omega arith)) q.1 (rw z h.1) in
    let n : ℕ = walked (u - c) w in
    let a : step w (time f) ≡ (counted n, w') = step_time w f u fits q.0 p h.0 in
    let d : t - c ≡ (u - c) + (t - u) = split c u t h.0 le in
    let cs : List Call = map time fs in
    let r : walk (t - c) w ≡ walk (t - u) w' = rw d (walk_add (u - c) (t - u) w) in
    let s : walked (t - c) w ≡ n + walked (t - u) w' = rw d (walked_add (u - c) (t - u) w) in
    record {
      world = ap (λ x. after x.1 cs) a ∙ (i.world ∙ (ap (λ x. walk (t - x) w') z ∙ sym r));
      counts = n ∷ i.counts;
      told = ap (λ x. x.0 ∷ replies x.1 cs) a ∙ ap (λ rs. counted n ∷ rs) i.told;
      adds = ap (λ x. n + x) (i.adds ∙ ap (λ x. walked (t - x) w') z) ∙ sym s;
      events = λ l k.
          let l' : Ledger = pass (u - c) l in
          let lp : 0 < l.clock = omega arith in
          let g : entered l (time f) (counted n) ≡ l' = entered_time l f u n q.0 lp ∙ ap (λ x. pass (u - x) l) k in
          let e : l'.clock ≡ w'.state.clock = pass_clock (u - c) l ∙ (omega arith ∙ sym z) in
          let v : pass (t - c) l ≡ pass (t - u) l' = rw d (pass_add (u - c) (t - u) l) in
          ap (λ x. ledger (entered l (time f) x.0) cs (replies x.1 cs)) a
          ∙ (ap (λ x. ledger x cs (replies w' cs)) g ∙ (i.events l' e ∙ (ap (λ x. pass (t - x) l') z ∙ sym v)));
    }
