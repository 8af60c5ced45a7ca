-- Two slides on a tape of thirty bytes, worked out.
use Rattle.std.proofs.Common.{◌≡◌, ℕ, ◌-◌, min, List, ◌++◌, length, replicate, Some, None, Option, nat_le, true, refl, ap, ◌∙◌, arith}
use Rattle.std.proofs.lemmas.Bool.{cond_both, cond-true}
use Rattle.std.proofs.lemmas.Bool.Decides.{nat_tests}
use Rattle.std.proofs.lemmas.List.{drop_all}
use Rattle.display.specs.Figures.{abc, xyz, first_entry}
use Rattle.display.specs.Meaning.{blank}
use Rattle.display.specs.Tape.{Reel, film, entered, place_for}
use Rattle.packed.specs.Parts.{pasted}
use Rattle.packed.proofs.Overwritten.{length_pasted, pasted_both}
use Rattle.replay.specs.Figures.{second_entry}
use Rattle.replay.specs.Tapes.{entered_all}
use Rattle.rules.proofs.Both.{both}
use Rattle.rules.specs.Laws.{account}
use Rattle.rules.specs.Samples.{two_slides}
use Rattle.rules.specs.Triggers.{Effect}

module _ (xs : List ℕ) (long : length xs ≡ 30) where
  abbrev first_tape : List ℕ
  first_tape = pasted xs 0 first_entry

  -- the first entry goes to the start
  at_start : place_for xs None 3 ≡ 0
  at_start = cond_both (nat_le 15 (length xs)) 0 0 (λ p. p ≡ 0) (λ e. refl) (λ e. refl)

  one : entered (xs, None) 1 5184000001016 abc ≡ (first_tape, Some 0)
  one i = (pasted xs (at_start i) first_entry, Some (at_start i))

  as_long : length first_tape ≡ 30
  as_long = length_pasted xs 0 first_entry (omega (arith, long)) ∙ long

  -- and the second behind it
  behind : place_for first_tape (Some 0) 3 ≡ 15
  behind = let e : nat_le 30 (length first_tape) ≡ true = grind (arith, nat_tests, as_long) in cond-true (nat_le 30 (length first_tape)) 15 0 e

  whole : pasted first_tape 15 second_entry ≡ first_entry ++ second_entry
  whole =
      pasted_both xs 0 first_entry second_entry (omega (arith, long))
      ∙ ap (λ (z : List ℕ). first_entry ++ second_entry ++ z) (drop_all 30 xs (omega (arith, long)))

  two : entered (first_tape, Some 0) 2 5184000001017 xyz ≡ (first_entry ++ second_entry, Some 15)
  two = (λ i. (pasted first_tape (behind i) second_entry, Some (behind i))) ∙ (λ i. (whole i, Some 15))

  -- a film without a card, over which a receiver with slots of 3 bytes is sent them
  pub filmed : (j : Option ℕ) → j ≡ None → entered_all (λ t. t) (xs, j) (account (film xs j) 3 (replicate 36 0) two_slides).history ≡ (first_entry ++ second_entry, Some 15)
  filmed j none =
      let fresh : film xs j ≡ blank 18 = (λ i. film xs (none i)) ∙ ap (λ (n : ℕ). blank (min (n - 12) 65536)) long in
      (λ i. entered_all (λ t. t) (xs, none i) (account (fresh i) 3 (replicate 36 0) two_slides).history)
      ∙ ap (λ (es : List Effect). entered_all (λ t. t) (xs, None) es) both.two_entries
      ∙ ap (λ (r : Reel). entered r 2 5184000001017 xyz) one
      ∙ two
