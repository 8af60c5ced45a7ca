-- A data group does what the call does that it asks.
use Rattle.std.proofs.Common.{◌≡◌, ℕ, Bool, true, false, List, [], ◌∷◌, ◌++◌, map, Ok, Err, Result, sym, refl, ap, ◌∙◌}
use Rattle.datagroup.specs.Groups as groups
use Rattle.datagroup.specs.Groups.{Group, group_of}
use Rattle.display.specs.Meaning.{Meaning}
use Rattle.refusal.specs.declared.Fault.{Fault}
use Rattle.refusal.specs.declared.causes.Cause.TheVariants.{BodyMemoryMisfit}
use Rattle.std.proofs.lemmas.Bool.{cond-true, cond-false}
use Rattle.rules.specs.Assembly.{segment_step}
use Rattle.rules.specs.Calls.{Call, header, segment, group, time, find_name, next_place, body_of, card, card_byte, slot_size, Reply}
use Rattle.rules.specs.Effects.{header_effects, segment_effects, on_group_effects, group_effects, effects, all_effects}
use Rattle.rules.specs.Groups.{as_answer, on_group, group_step, asked_by, plainly}
use Rattle.rules.specs.Headers.{receiver_fault, header_step}
use Rattle.rules.specs.Laws.{GroupsAreCalls}
use Rattle.rules.specs.Ledgers.{Ledger, ledger, entered, grouped, blank}
use Rattle.rules.specs.Runs.{opened, after, replies, step}
use Rattle.rules.specs.Triggers.{Effect}
use Rattle.rules.specs.Worlds.{World, fits_memory}
use Rattle.rules.specs.declared.answers.Answer.{Answer}
use Rattle.rules.specs.declared.answers.Answer.TheVariants.{Refused}

-- an outcome, and what takes effect in it
abbrev Outcome : Type 0
Outcome = (Reply × World) × List Effect

-- memory that does not fit is refused alike by all three
abbrev misfit : World → Answer × World
misfit w = (Refused (receiver_fault BodyMemoryMisfit), w)

header_misfit : (w : World) (t : ℕ) (xs : List ℕ) → fits_memory w ≡ false → header_step w t xs ≡ misfit w
unfolding header_step
header_misfit w t xs e = cond-false _ _ _ e

segment_misfit : (w : World) (t n : ℕ) (last : Bool) (xs : List ℕ) → fits_memory w ≡ false → segment_step w t n last xs ≡ misfit w
unfolding segment_step
segment_misfit w t n last xs e = cond-false _ _ _ e

header_none : (w : World) (t : ℕ) (xs : List ℕ) → fits_memory w ≡ false → header_effects w t xs ≡ []
unfolding header_effects
header_none w t xs e = cond-false _ _ _ e

segment_none : (w : World) (t n : ℕ) (last : Bool) (xs : List ℕ) → fits_memory w ≡ false → segment_effects w t n last xs ≡ []
unfolding segment_effects
segment_none w t n last xs e = cond-false _ _ _ e

-- a group that is read as r, and a call with the outcome o: they come to the same
module _ (w : World) (xs : List ℕ) (r : Result Group Fault) (is : group_of xs ≡ r) where
  stepped : (o : Answer × World) → on_group r w ≡ as_answer o → (fits_memory w ≡ false → o ≡ misfit w) → (b : Bool) → fits_memory w ≡ b → group_step w xs ≡ as_answer o
  unfolding group_step
  stepped o g n true e = cond-true _ _ _ e ∙ ap (λ (q : Result Group Fault). on_group q w) is ∙ g
  stepped o g n false e = cond-false _ _ _ e ∙ ap as_answer (sym (n e))

  took_effect : (es : List Effect) → on_group_effects r w ≡ es → (fits_memory w ≡ false → es ≡ []) → (b : Bool) → fits_memory w ≡ b → group_effects w xs ≡ es
  unfolding group_effects
  took_effect es g n true e = cond-true _ _ _ e ∙ ap (λ (q : Result Group Fault). on_group_effects q w) is ∙ g
  took_effect es g n false e = cond-false _ _ _ e ∙ sym (n e)

step_plainly : (w : World) (c : Call) → step w c ≡ step w (plainly c)
unfolding step
step_plainly w (header t xs) = refl
step_plainly w (segment t n last xs) = refl
step_plainly w (time xs) = refl
step_plainly w (find_name n) = refl
step_plainly w (next_place p) = refl
step_plainly w (body_of n) = refl
step_plainly w card = refl
step_plainly w (card_byte i) = refl
step_plainly w slot_size = refl
step_plainly w (group xs) = go (group_of xs) refl
  where
    go : (r : Result Group Fault) → group_of xs ≡ r → step w (group xs) ≡ step w (asked_by r (group xs))
    go (Err e) i = refl
    go (Ok (groups.header t ys)) i = stepped w xs (Ok (groups.header t ys)) i (header_step w t ys) refl (header_misfit w t ys) (fits_memory w) refl
    go (Ok (groups.segment t n last ys)) i = stepped w xs (Ok (groups.segment t n last ys)) i (segment_step w t n last ys) refl (segment_misfit w t n last ys) (fits_memory w) refl
    go (Ok groups.other) i = refl

effects_plainly : (w : World) (c : Call) → effects w c ≡ effects w (plainly c)
unfolding effects
effects_plainly w (header t xs) = refl
effects_plainly w (segment t n last xs) = refl
effects_plainly w (time xs) = refl
effects_plainly w (find_name n) = refl
effects_plainly w (next_place p) = refl
effects_plainly w (body_of n) = refl
effects_plainly w card = refl
effects_plainly w (card_byte i) = refl
effects_plainly w slot_size = refl
effects_plainly w (group xs) = go (group_of xs) refl
  where
    go : (r : Result Group Fault) → group_of xs ≡ r → effects w (group xs) ≡ effects w (asked_by r (group xs))
    go (Err e) i = refl
    go (Ok (groups.header t ys)) i = took_effect w xs (Ok (groups.header t ys)) i (header_effects w t ys) refl (header_none w t ys) (fits_memory w) refl
    go (Ok (groups.segment t n last ys)) i = took_effect w xs (Ok (groups.segment t n last ys)) i (segment_effects w t n last ys) refl (segment_none w t n last ys) (fits_memory w) refl
    go (Ok groups.other) i = refl

entered_plainly : (l : Ledger) (c : Call) (r : Reply) → entered l c r ≡ entered l (plainly c) r
unfolding entered
entered_plainly l (header t xs) r = refl
entered_plainly l (segment t n last xs) r = refl
entered_plainly l (time xs) r = refl
entered_plainly l (find_name n) r = refl
entered_plainly l (next_place p) r = refl
entered_plainly l (body_of n) r = refl
entered_plainly l card r = refl
entered_plainly l (card_byte i) r = refl
entered_plainly l slot_size r = refl
entered_plainly l (group xs) r = go (group_of xs) refl
  where
    go : (g : Result Group Fault) → group_of xs ≡ g → entered l (group xs) r ≡ entered l (asked_by g (group xs)) r
    go (Err e) i = refl
    go (Ok (groups.header t ys)) i = ap (λ (q : Result Group Fault). grouped q r l) i
    go (Ok (groups.segment t n last ys)) i = ap (λ (q : Result Group Fault). grouped q r l) i
    go (Ok groups.other) i = refl

replies_plainly : (cs : List Call) (w : World) → replies w cs ≡ replies w (map plainly cs)
replies_plainly [] w = refl
replies_plainly (c ∷ cs) w =
    ap (λ (rs : List Reply). (step w c).0 ∷ rs) (replies_plainly cs (step w c).1)
    ∙ ap (λ (o : Reply × World). o.0 ∷ replies o.1 (map plainly cs)) (step_plainly w c)

after_plainly : (cs : List Call) (w : World) → after w cs ≡ after w (map plainly cs)
after_plainly [] w = refl
after_plainly (c ∷ cs) w =
    after_plainly cs (step w c).1 ∙ ap (λ (o : Reply × World). after o.1 (map plainly cs)) (step_plainly w c)

all_effects_plainly : (cs : List Call) (w : World) → all_effects w cs ≡ all_effects w (map plainly cs)
all_effects_plainly [] w = refl
all_effects_plainly (c ∷ cs) w =
    ap (λ (es : List Effect). effects w c ++ es) (all_effects_plainly cs (step w c).1)
    ∙ (λ i. effects_plainly w c i ++ all_effects (step_plainly w c i).1 (map plainly cs))

ledger_plainly : (cs : List Call) (rs : List Reply) (l : Ledger) → ledger l cs rs ≡ ledger l (map plainly cs) rs
ledger_plainly [] rs l = refl
ledger_plainly (c ∷ cs) [] l = refl
ledger_plainly (c ∷ cs) (r ∷ rs) l =
    ledger_plainly cs rs (entered l c r) ∙ ap (λ (g : Ledger). ledger g (map plainly cs) rs) (entered_plainly l c r)

pub groups_are_calls : (m : Meaning) (size : ℕ) (memory : List ℕ) → GroupsAreCalls m size memory
groups_are_calls m size memory cs =
    let w : World = opened m size memory in
    record {
      replies = replies_plainly cs w;
      ends = after_plainly cs w;
      shows = all_effects_plainly cs w;
      events = ledger_plainly cs (replies w cs) blank ∙ ap (ledger blank (map plainly cs)) (replies_plainly cs w);
    }
