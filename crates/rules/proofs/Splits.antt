-- Runs in parts: a list of calls behind another.
use Rattle.std.proofs.Common.{◌≡◌, suc, List, [], ◌∷◌, ◌++◌, length, sym, refl, ap, ◌∙◌, append_assoc}
use Rattle.rules.specs.Calls.{Call}
use Rattle.rules.specs.Effects.{effects, all_effects}
use Rattle.rules.specs.Ledgers.{Ledger, ledger, entered}
use Rattle.rules.specs.Runs.{after, replies, step}
use Rattle.rules.specs.Worlds.{World}

pub after_append : (xs ys : List Call) (w : World) → after w (xs ++ ys) ≡ after (after w xs) ys
after_append [] ys w = refl
after_append (c ∷ xs) ys w = after_append xs ys (step w c).1

pub replies_append : (xs ys : List Call) (w : World) → replies w (xs ++ ys) ≡ replies w xs ++ replies (after w xs) ys
replies_append [] ys w = refl
replies_append (c ∷ xs) ys w = ap (λ rs. (step w c).0 ∷ rs) (replies_append xs ys (step w c).1)

-- each call has its reply
pub length_replies : (xs : List Call) (w : World) → length (replies w xs) ≡ length xs
length_replies [] w = refl
length_replies (c ∷ xs) w = ap suc (length_replies xs (step w c).1)

pub effects_append : (xs ys : List Call) (w : World) → all_effects w (xs ++ ys) ≡ all_effects w xs ++ all_effects (after w xs) ys
effects_append [] ys w = refl
effects_append (c ∷ xs) ys w =
    ap (λ es. effects w c ++ es) (effects_append xs ys (step w c).1) ∙ sym (append_assoc (effects w c) (all_effects (step w c).1 xs) (all_effects (after w (c ∷ xs)) ys))

pub ledger_append : (xs ys : List Call) (w : World) (l : Ledger) → ledger l (xs ++ ys) (replies w (xs ++ ys)) ≡ ledger (ledger l xs (replies w xs)) ys (replies (after w xs) ys)
ledger_append [] ys w l = refl
ledger_append (c ∷ xs) ys w l = ledger_append xs ys (step w c).1 (entered l c (step w c).0)
