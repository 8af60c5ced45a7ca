-- The laws stand.
use Rattle.std.proofs.Common.{◌≡◌, ℕ, ◌-◌, ◌<◌, ◌≤◌, List, ◌∷◌, ◌++◌, map, sym, ap, ◌∙◌, ap₂, arith}
use Rattle.display.specs.Meaning.{Meaning, Keeps}
use Rattle.rules.specs.Calls.{Call, time, counted}
use Rattle.rules.specs.Clocks.{walk, walked}
use Rattle.rules.specs.Laws.{Chains, MomentsNeverFall, RunLaws, LawsStand, ending, answers, account}
use Rattle.rules.specs.Ledgers.{Ledger, ledger, entered, pass, blank}
use Rattle.rules.specs.Runs.{opened, after, replies, step}
use Rattle.rules.specs.Worlds.{World}
use Rattle.rules.proofs.Enters.{runs, opens}
use Rattle.rules.proofs.Groupings.{groups_are_calls}
use Rattle.rules.proofs.Histories.{told_runs}
use Rattle.rules.proofs.Follows.{newest, Follows}
use Rattle.rules.proofs.Moments.{ledger_fine, settles, all_mono}
use Rattle.rules.proofs.Readings.{accepted, Climbed, climbed, climbs_le, step_time, entered_time}
use Rattle.rules.proofs.Kept.{sound_open, sound_run, numbers_rise}
use Rattle.rules.proofs.Splits.{after_append, replies_append, ledger_append}

module _ (m : Meaning) (size : ℕ) (memory : List ℕ) (follows : (cs : List Call) → (account m size memory cs).clock ≡ (ending m size memory cs).state.clock) where
  chains : Chains m size memory
  chains before chain moments field t c rest p e o q h =
      let v : World = opened m size memory in
      let w : World = ending m size memory before in
      let l : Ledger = account m size memory before in
      let z : l.clock ≡ w.state.clock = follows before in
      let n : ℕ = t - w.state.clock in
      let le : w.state.clock ≤ t = climbs_le w.state.clock t moments h in
      let fits = accepted w field c o in
      let i : Climbed w chain t = climbed chain moments w t fits p q h in
      let cs : List Call = map time chain in
      let a : step w (time field) ≡ (counted (walked n w), walk n w) = step_time w field t fits e p le in
      let lp : 0 < l.clock = omega arith in
      let g : entered l (time field) (counted (walked n w)) ≡ pass n l = entered_time l field t (walked n w) e lp ∙ ap (λ x. pass (t - x) l) z in
      let u : World = walk n w in
      record {
        counts = i.counts;
        others = replies u rest;
        chained =
            replies_append before (cs ++ rest) v
            ∙ ap (λ rs. replies v before ++ rs)
            (replies_append cs rest w ∙ ap₂ (λ rs x. rs ++ replies x rest) i.told i.world);
        single =
            replies_append before (time field ∷ rest) v
            ∙ ap (λ rs. replies v before ++ rs) (ap (λ x. x.0 ∷ replies x.1 rest) a ∙ ap (λ x. counted x ∷ replies u rest) (sym i.adds));
        world =
            after_append before (cs ++ rest) v
            ∙ (after_append cs rest w
            ∙ (ap (λ x. after x rest) (i.world ∙ sym (ap (λ x. x.1) a)) ∙ sym (after_append before (time field ∷ rest) v)));
        events =
            ledger_append before (cs ++ rest) v blank
            ∙ (ledger_append cs rest w l
            ∙ (ap₂ (λ k x. ledger k rest (replies x rest)) (i.events l z) i.world
            ∙ (sym (ap (λ x. ledger (entered l (time field) x.0) rest (replies x.1 rest)) a ∙ ap (λ k. ledger k rest (replies u rest)) g)
            ∙ sym (ledger_append before (time field ∷ rest) v blank))));
      }

module _ (m : Meaning) (keeps : Keeps m) (size : ℕ) (memory : List ℕ) where
  following : (cs : List Call) → Follows m (ending m size memory cs) (account m size memory cs)
  following cs = runs m keeps cs (opened m size memory) blank (sound_open m size memory) (opens m keeps size memory)

  moments : MomentsNeverFall m size memory
  moments cs =
      let l : Ledger = account m size memory cs in
      let g = ledger_fine cs (answers m size memory cs) blank (record { rising = tt; within = tt }) in
      let r = following cs in
      settles m.settle newest (λ a b h k. keeps.in_order a b h (omega (arith, keeps.lag_small))) l.history g.rising
      (all_mono (λ x. x.moment ≤ l.clock) (λ x. x.moment ≤ newest) (λ x i. omega (arith, r.clock, r.early)) l.history g.within)

  pub run_laws : RunLaws m size memory
  run_laws = record {
    chains = chains m size memory (λ cs. (following cs).clock);
    card_is_last = λ cs. ap (λ (d : Meaning). d.card) (following cs).display;
    moments_never_fall = moments;
    shows_accepted = λ cs. (following cs).accepted;
    all_sound = λ cs. sound_run cs (opened m size memory) (sound_open m size memory);
    numbers_rise = numbers_rise m size memory;
    history_is_effects = λ cs. sym (told_runs m keeps cs (opened m size memory) blank (sound_open m size memory) (opens m keeps size memory));
    groups_are_calls = groups_are_calls m size memory;
  }

pub laws : LawsStand
laws m keeps size memory = run_laws m keeps size memory
