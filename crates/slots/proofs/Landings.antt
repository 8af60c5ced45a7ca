-- What is known of a segment that lands.
use Rattle.std.proofs.Common.{◌≡◌, ℕ, ◌<◌, Bool, true, false, cond, ◌||◌, eqb, ltb, refl, arith}
use Rattle.std.proofs.lemmas.Bool.{or_parts, ltb-false, eqb-false}
use Rattle.slots.specs.Segments.{has, fits, offset, landing}
use Rattle.slots.specs.declared.progress.Landing.TheVariants.{Misfit, Again, At}
use Rattle.slots.specs.declared.progress.Progress.{Progress}
use Rattle.slots.specs.declared.progress.Segment.{Segment}

-- it has a number that is new and some bytes, it fits, and its offset is its own
pub record Lands (p : Progress) (s : Segment) (o : ℕ) : Type 0 where
  pub small : s.number < 64
  pub some : 0 < s.length
  pub new : has s.number p.taken ≡ false
  pub fitting : fits p.piece p.size s.number s.last s.length ≡ true
  pub place : offset p.size s.number s.last s.length ≡ o

passed_all : (a b c : Bool) (u o : ℕ) → cond a Misfit (cond b Again (cond c (At u) Misfit)) ≡ At o → (a ≡ false) × (b ≡ false) × (c ≡ true) × (u ≡ o)
passed_all true b c u o e = let z : ◌≡◌ {A = ℕ} 0 1 = cc in absurd (omega arith)
passed_all false true c u o e = let z : ◌≡◌ {A = ℕ} 0 1 = cc in absurd (omega arith)
passed_all false false true u o e = (refl, refl, refl, cc)
passed_all false false false u o e = let z : ◌≡◌ {A = ℕ} 0 1 = cc in absurd (omega arith)

pub lands : (p : Progress) (s : Segment) (o : ℕ) → landing p s ≡ At o → Lands p s o
lands p s o e =
    let t = passed_all (ltb 63 s.number || eqb s.length 0) (has s.number p.taken) (fits p.piece p.size s.number s.last s.length) (offset p.size s.number s.last s.length) o e in
    let u = or_parts (ltb 63 s.number) (eqb s.length 0) t.0 in
    let filled : s.length ≡ 0 → ⊥ = eqb-false s.length 0 u.1 in
    record {
      small = omega (arith, ltb-false 63 s.number u.0);
      some = omega arith;
      new = t.1;
      fitting = t.2;
      place = t.3;
    }
