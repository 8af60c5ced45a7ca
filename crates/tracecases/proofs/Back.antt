-- What was written is told, case by case.
use Rattle.std.proofs.Common.{◌≡◌, ℕ, zero, suc, ◌≤◌, leb, List, [], ◌∷◌, ◌++◌, length, Some, Option, refl, ap, ◌∙◌, arith, length-append}
use Rattle.packed.specs.Bits.{whole, bytes_of}
use Rattle.std.proofs.Math.Seq.{take-append_seam, drop-append_seam}
use Rattle.std.proofs.lemmas.List.{append_assoc}
use Rattle.std.proofs.lemmas.Bool.{cond-true, le-leb}
use Rattle.std.specs.List.{AllByRecursion}
use Rattle.tracecases.specs.Cases.{Case, parted, with_trace, with_name, first_case}
use Rattle.tracecases.specs.Told.{case_told, and_on, told_from, told}
use Rattle.tracecases.specs.Written.{Fits, written, all_written, all_told, TellsEach}

part_is : (xs ys : List ℕ) → parted (length xs) (xs ++ ys) ≡ Some (xs, ys)
part_is xs ys =
    cond-true (leb (length xs) (length (xs ++ ys))) _ _ (le-leb _ _ (simp length-append (omega arith)))
    ∙ (λ i. Some (take-append_seam xs ys i, drop-append_seam xs ys i))

-- the first case is the one that was written first
first : (c : Case) → Fits c → (ys : List ℕ) → first_case (written c ++ ys) ≡ Some (c, ys)
first c fits ys =
    let size = bytes_of 2 (length c.trace) in
    let long : whole (bytes_of 2 (length c.trace)) ≡ length c.trace = omega (arith, fits.1) in
    ap (λ (xs : List ℕ). with_name (parted (length c.name) xs)) (append_assoc c.name (size ++ c.trace) ys)
    ∙ ap with_name (part_is c.name ((size ++ c.trace) ++ ys))
    ∙ ap (λ (n : ℕ). with_trace c.name (parted n (c.trace ++ ys))) long
    ∙ ap (with_trace c.name) (part_is c.trace ys)

back : (n : ℕ) (cs : List Case) → AllByRecursion Fits cs → length (all_written cs) ≤ n → told_from n (all_written cs) ≡ all_told cs
back zero [] f h = refl
back zero (c ∷ cs) f h = absurd (omega arith)
back (suc n) [] f h = refl
back (suc n) (c ∷ cs) f h =
    ap (λ (o : Option (Case × List ℕ)). and_on o (λ left. told_from n left)) (first c f.0 (all_written cs))
    ∙ ap (λ (ys : List ℕ). case_told c ++ ys) (back n cs f.1 (omega (arith, simp length-append at h)))

pub tells_each : (xs text : List ℕ) → text ≡ told xs → TellsEach xs text
tells_each xs text is cs f e = is ∙ ap told e ∙ back (length (all_written cs)) cs f (omega arith)
