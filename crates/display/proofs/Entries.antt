-- Two shows on a tape of thirty bytes, and one below layers, worked out.
use Rattle.std.proofs.Common.{◌≡◌, ℕ, List, ◌++◌, length, Some, None, Option, nat_le, true, refl, ap, ◌∙◌, arith}
use Rattle.std.proofs.lemmas.Bool.{cond_both, cond-true}
use Rattle.std.proofs.lemmas.Bool.Decides.{nat_tests}
use Rattle.std.proofs.lemmas.List.{drop_all}
use Rattle.packed.specs.Parts.{pasted}
use Rattle.packed.proofs.Overwritten.{length_pasted, pasted_both}
use Rattle.display.specs.Figures.{abc, xyz, first_entry, second_entry, late_entry, after, TwoEntries, PutOffEntry}
use Rattle.display.specs.Tape.{Reel, film, place_for, recorded}
use Rattle.display.specs.Taping.{accepted}
use Rattle.display.specs.Layering.{edge_over, lag_over}

-- the first entry goes to the start
at_start : (xs : List ℕ) → place_for xs None 3 ≡ 0
at_start xs = cond_both (nat_le 15 (length xs)) 0 0 (λ p. p ≡ 0) (λ e. refl) (λ e. refl)

module _ (xs : List ℕ) (long : length xs ≡ 30) where
  abbrev first_tape : List ℕ
  first_tape = pasted xs 0 first_entry

  one_entry : after (xs, None) 1 5184000001016 abc ≡ (first_tape, Some 0)
  one_entry =
      accepted (film xs None) (xs, None) 1 5184000001016 abc (omega arith, omega (arith, long), omega arith, omega arith)
      ∙ (λ i. (pasted xs (at_start xs i) first_entry, Some (at_start xs i)))

  as_long : length first_tape ≡ 30
  as_long = length_pasted xs 0 first_entry (omega (arith, long)) ∙ long

  -- and the second behind it
  behind : place_for first_tape (Some 0) 3 ≡ 15
  behind = let e : nat_le 30 (length first_tape) ≡ true = grind (arith, nat_tests, as_long) in cond-true (nat_le 30 (length first_tape)) 15 0 e

  both : pasted first_tape 15 second_entry ≡ first_entry ++ second_entry
  both =
      pasted_both xs 0 first_entry second_entry (omega (arith, long))
      ∙ ap (λ (z : List ℕ). first_entry ++ second_entry ++ z) (drop_all 30 xs (omega (arith, long)))

  two : after (first_tape, Some 0) 2 5184000002048 xyz ≡ (first_entry ++ second_entry, Some 15)
  two =
      accepted (film first_tape (Some 0)) (first_tape, Some 0) 2 5184000002048 xyz (omega arith, omega (arith, as_long), omega arith, omega arith)
      ∙ (λ i. (pasted first_tape (behind i) second_entry, Some (behind i)))
      ∙ (λ i. (both i, Some 15))

pub two_entries : TwoEntries
two_entries xs long =
    ap (λ (r : Reel). after r 2 5184000002048 xyz) (one_entry xs long) ∙ two xs long

-- of a film that was told both
pub two_told : (r s t : Reel) → t ≡ after s 2 5184000002048 xyz → s ≡ after r 1 5184000001016 abc → r.1 ≡ None → length r.0 ≡ 30 → t ≡ (first_entry ++ second_entry, Some 15)
two_told r s t second first none long =
    second ∙ ap (λ (r : Reel). after r 2 5184000002048 xyz) (first ∙ ap (λ (j : Option ℕ). after (r.0, j) 1 5184000001016 abc) none) ∙ two_entries r.0 long

pub put_off_entry : PutOffEntry
put_off_entry xs long =
    accepted (lag_over 10 (edge_over 16 (film xs None))) (xs, None) 1 1000 abc (omega arith, omega (arith, long), omega arith, omega arith)
    ∙ (λ i. (pasted xs (at_start xs i) late_entry, Some (at_start xs i)))
    ∙ (λ i. (late_entry ++ drop_all 15 xs (omega (arith, long)) i, Some 0))

-- of a film below those layers
pub put_off_told : (xs : List ℕ) (k : Option ℕ) (p d : ℕ) (t : Reel) → t ≡ recorded (lag_over d (edge_over p (film xs k))) (xs, k) 1 1000 abc → p ≡ 16 → d ≡ 10 → k ≡ None → length xs ≡ 15 → t ≡ (late_entry, Some 0)
put_off_told xs k p d t told sixteen ten none long =
    told ∙ (λ i. recorded (lag_over (ten i) (edge_over (sixteen i) (film xs (none i)))) (xs, none i) 1 1000 abc) ∙ put_off_entry xs long
