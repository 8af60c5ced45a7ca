-- Chains of options and results: going on from a value, and back from the last value to each before it.
use Rattle.std.proofs.Common.{◌≡◌, ℕ, Bool, true, false, cond, ◌&&◌, None, Some, Ok, Err, Option, Result, refl, ap, ◌∙◌, arith}
use Rattle.refusal.specs.declared.Fault.{Fault}
use Rattle.datagroup.specs.Fields.{and_then}

pub none_not : {T : Type 0} (v : T) → ◌≡◌ {A = Option T} None (Some v) → ⊥
none_not v p = let z : ◌≡◌ {A = ℕ} 0 1 = cc in omega arith

pub refused_not : {T : Type 0} (e : Fault) (v : T) → ◌≡◌ {A = Result T Fault} (Err e) (Ok v) → ⊥
refused_not e v p = let z : ◌≡◌ {A = ℕ} 0 1 = cc in omega arith

pub both : (b c : Bool) → b && c ≡ true → (b ≡ true) × (c ≡ true)
both true c e = (refl, e)
both false c e = absurd cc

-- what a test lets through
pub passed : {T : Type 0} (b : Bool) (o : Option T) (w : T) → cond b o None ≡ Some w → (b ≡ true) × (o ≡ Some w)
passed true o w e = (refl, e)
passed false o w e = absurd (none_not w e)

pub then_go : {T U : Type 0} (o : Option T) (f : T → Option U) (x : T) (y : Option U) → o ≡ Some x → f x ≡ y → and_then o f ≡ y
then_go o f x y e is = ap (λ s. and_then s f) e ∙ is

pub then_some : {T U : Type 0} (o : Option T) (f : T → Option U) (y : U) → and_then o f ≡ Some y → (x : T) × (o ≡ Some x) × (f x ≡ Some y)
then_some (Some x) f y e = (x, refl, e)
then_some None f y e = absurd (none_not y e)
