-- What was written is read back, record by record.
use Rattle.std.proofs.Common.{◌≡◌, ℕ, zero, suc, ◌+◌, ◌*◌, ◌≤◌, leb, List, [], ◌∷◌, ◌++◌, map, length, Result, refl, ap, ◌∙◌, arith, length-append}
use Rattle.packed.specs.Bits.{field, whole, bytes_of}
use Rattle.refusal.specs.declared.Fault.{Fault}
use Rattle.rules.specs.Calls.{Call}
use Rattle.std.proofs.Math.Seq.{take-append_seam, drop-append_seam}
use Rattle.std.proofs.lemmas.List.{take_all}
use Rattle.std.proofs.lemmas.Bool.{cond-true, le-leb}
use Rattle.std.specs.List.{AllByRecursion}
use Rattle.records.specs.Records.{said_by, record_with, first_record, records_from, records_of}
use Rattle.records.specs.Written.{Sheet, Fits, written, all_written, GivesBack}

-- the two bytes of a head
abbrev head : Sheet → ℕ
head s = s.kind * 8192 + length s.payload

module _ (s : Sheet) (fits : Fits s) where
  word : whole (bytes_of 2 (head s)) ≡ head s
  word = omega (arith, fits.0, fits.1)

  kind_is : field 16 0 3 (whole (bytes_of 2 (head s))) ≡ s.kind
  kind_is = rw word (omega (arith, fits.0, fits.1))

  size_is : field 16 3 13 (whole (bytes_of 2 (head s))) ≡ length s.payload
  size_is = rw word (omega (arith, fits.0, fits.1))

  -- the first record is the one that was written first
  first : (ys : List ℕ) → first_record (written s ++ ys) ≡ (said_by s.kind s.payload, ys)
  first ys =
      (λ i. record_with (kind_is i) (size_is i) (s.payload ++ ys))
      ∙ cond-true (leb (length s.payload) (length (s.payload ++ ys))) _ _ (le-leb _ _ (simp length-append (omega arith)))
      ∙ (λ i. (said_by s.kind (take-append_seam s.payload ys i), drop-append_seam s.payload ys i))

back : (n : ℕ) (ss : List Sheet) → AllByRecursion Fits ss → length (all_written ss) ≤ n → records_from n (all_written ss) ≡ map (λ s. said_by s.kind s.payload) ss
back zero [] f h = refl
back zero (s ∷ ss) f h = absurd (omega arith)
back (suc n) [] f h = refl
back (suc n) (s ∷ ss) f h =
    ap (λ (p : Result Call Fault × List ℕ). p.0 ∷ records_from n p.1) (first s f.0 (all_written ss))
    ∙ ap (λ (rs : List (Result Call Fault)). said_by s.kind s.payload ∷ rs) (back n ss f.1 (omega (arith, simp length-append at h)))

pub gives_back : (xs : List ℕ) (rs : List (Result Call Fault)) → rs ≡ records_of xs → GivesBack xs rs
gives_back xs rs is ss f e h =
    is
    ∙ ap (λ (ys : List ℕ). records_from (length ys) ys) (take_all 32768 xs h ∙ e)
    ∙ back (length (all_written ss)) ss f (omega arith)
