-- A flagged checksum, which is taken off where it is right.
use Rattle.std.proofs.Common.{◌≡◌, ℕ, suc, ◌+◌, ◌-◌, ◌≤◌, Bool, true, false, leb, List, [], ◌∷◌, ◌++◌, length, take, drop, get_or, Ok, Err, Result, sym, refl, ap, ◌∙◌, arith}
use Rattle.packed.specs.Bits.{whole, bytes_of}
use Rattle.packed.proofs.Written.{whole_bytes}
use Rattle.checksum.specs.Registers.{checksum_of}
use Rattle.refusal.specs.declared.Fault.{Fault}
use Rattle.refusal.specs.declared.causes.Cause.TheVariants.{GroupMalformed, ChecksumDiffers}
use Rattle.std.proofs.lemmas.Bool.{cond-true, cond-false, eq-eqb, eqb-true, leb-true, le-leb, cond_both}
use Rattle.std.proofs.lemmas.List.{take_at, drop_at, length-append, length-drop, take-append-drop}
use Rattle.datagroup.specs.Fields.{checksum_flag}
use Rattle.datagroup.specs.Groups.{group_fault, sum_fits, checked}
use Rattle.datagroup.specs.Written.{with_sum, SumStands, SumDiffers}
use Rattle.datagroup.proofs.Digits.{Bytes, behind, two_bytes}

pub unflagged : (b : Bool) → b ≡ false → b ≡ true → ⊥
unflagged b e f = absurd cc

-- two bytes are those of their number
of_whole : (zs : List ℕ) (n : ℕ) → Bytes zs → length zs ≡ 2 → whole zs ≡ n → zs ≡ bytes_of 2 n
of_whole [] n all l e = absurd (omega arith)
of_whole (c ∷ []) n all l e = absurd (omega arith)
of_whole (c ∷ d ∷ []) n all l e = sym (two_bytes c d all.0 all.1.0) ∙ ap (bytes_of 2) e
of_whole (c ∷ d ∷ z ∷ zs) n all l e = absurd (omega arith)

-- what is found of a checksum
pub data Checked (xs : List ℕ) : Result (List ℕ) Fault → Type 0 where
  cut : Checked xs (Err (group_fault GroupMalformed))
  wrong : SumDiffers xs → Checked xs (Err (group_fault ChecksumDiffers))
  right : (summed : Bool) (ys : List ℕ) → checksum_flag (get_or xs 0 0) ≡ summed → SumStands xs → xs ≡ with_sum summed ys → Checked xs (Ok ys)

-- all but the last two bytes, and their checksum
apart : (xs : List ℕ) → Bytes xs → 4 ≤ length xs → sum_fits xs ≡ true → xs ≡ with_sum true (take (length xs - 2) xs)
apart xs all long fits =
    let n : ℕ = length xs - 2 in
    let front : List ℕ = take n xs in
    let parts : take n xs ++ drop n xs ≡ xs = take-append-drop n xs in
    let two : length (drop (length xs - 2) xs) ≡ 2 = length-drop n xs ∙ omega arith in
    let same : whole (drop n xs) ≡ checksum_of (take n xs) = eqb-true _ _ fits in
    sym parts ∙ ap (λ (zs : List ℕ). front ++ zs) (of_whole (drop n xs) (checksum_of front) (behind front (drop n xs) xs all (sym parts)) two same)

pub checks : (xs : List ℕ) → Bytes xs → Checked xs (checked xs)
checks [] all = right false [] refl (λ f. absurd (unflagged _ refl f)) refl
checks (a ∷ xs) all =
    let ys : List ℕ = a ∷ xs in
    cond_both (checksum_flag a) _ _ (Checked ys)
    (λ e. cond_both (leb 4 (length ys)) _ _ (Checked ys)
    (λ l. cond_both (sum_fits ys) _ _ (Checked ys)
    (λ s. right true _ e (λ f. (leb-true _ _ l, s)) (apart ys all (leb-true _ _ l) s))
    (λ s. wrong (e, leb-true _ _ l, s)))
    (λ l. cut))
    (λ e. right false ys e (λ f. absurd (unflagged _ e f)) refl)

-- what stands before a checksum, which is written behind it or not
pub checked_spelled : (summed : Bool) (a b : ℕ) (xs : List ℕ) → checksum_flag a ≡ summed → checked (with_sum summed (a ∷ b ∷ xs)) ≡ Ok (a ∷ b ∷ xs)
checked_spelled false a b xs e = cond-false _ _ _ e
checked_spelled true a b xs e =
    let ys : List ℕ = a ∷ b ∷ xs in
    let sum : List ℕ = bytes_of 2 (checksum_of ys) in
    let n : ℕ = length (ys ++ sum) - 2 in
    let all : length (ys ++ sum) ≡ length ys + 2 = length-append ys sum in
    let l : length ys ≡ n = omega (arith, all) in
    let front : take n (ys ++ sum) ≡ ys = take_at ys sum n l in
    let back : drop n (ys ++ sum) ≡ sum = drop_at ys sum n l in
    let same : whole sum ≡ checksum_of ys = whole_bytes 2 (checksum_of ys) (omega arith) in
    let fits : sum_fits (ys ++ sum) ≡ true = eq-eqb _ _ (ap whole back ∙ same ∙ ap checksum_of (sym front)) in
    let room : 4 ≤ length (ys ++ sum) = omega (arith, all) in
    cond-true _ _ _ e ∙ cond-true _ _ _ (le-leb _ _ room) ∙ cond-true _ _ _ fits ∙ ap Ok front

-- a checksum that stands leaves the two head bytes
pub stands : (a b : ℕ) (xs : List ℕ) → SumStands (a ∷ b ∷ xs) → (ys : List ℕ) × (checked (a ∷ b ∷ xs) ≡ Ok (a ∷ b ∷ ys))
stands a b xs s =
    cond_both (checksum_flag a) _ _ (λ r. (ys : List ℕ) × (r ≡ Ok (a ∷ b ∷ ys)))
    (λ e. let f = s e in let m : length (a ∷ b ∷ xs) - 2 ≡ suc (suc (length xs - 2)) = omega (arith, f.0) in
    (take (length xs - 2) xs, cond-true _ _ _ (le-leb _ _ f.0) ∙ cond-true _ _ _ f.1 ∙ ap (λ (n : ℕ). Ok (take n (a ∷ b ∷ xs))) m))
    (λ e. (xs, refl))

-- one that does not is refused
pub refused_sum : (xs : List ℕ) → SumDiffers xs → checked xs ≡ Err (group_fault ChecksumDiffers)
refused_sum [] d = absurd (unflagged _ refl d.0)
refused_sum (a ∷ xs) d = cond-true _ _ _ d.0 ∙ cond-true _ _ _ (le-leb _ _ d.1) ∙ cond-false _ _ _ d.2
