-- The first multiple of a period not below a moment, by what the moment leaves over.
use Rattle.std.proofs.Common.{◌≡◌, ℕ, ◌+◌, ◌-◌, ◌*◌, ◌/◌, ◌%◌, ◌<◌, ◌≤◌, ap, ◌∙◌, div-add-mod', mod-lt, arith}
use Rattle.std.proofs.Math.Nat.{div-eq_of_lt-le}
use Rattle.display.specs.Layering.{up}

-- nothing over: the moment itself
pub up_at : (p t : ℕ) → 1 ≤ p → t % p ≡ 0 → up p t ≡ t
up_at p t h e =
    let whole : t / p * p ≡ t = omega (arith, div-add-mod' t p) in
    let next : (t / p + 1) * p ≡ t / p * p + p = omega arith in
    let q : (t + (p - 1)) / p ≡ t / p = div-eq_of_lt-le p (omega (arith, whole)) (omega (arith, whole, next)) in
    ap (λ k. k * p) q ∙ whole

-- something over: what it lacks to a whole period
pub up_over : (p t : ℕ) → 1 ≤ p → 0 < t % p → up p t ≡ t + (p - t % p)
up_over p t h e =
    let less = mod-lt t h in
    let parts = div-add-mod' t p in
    let next : (t / p + 1) * p ≡ t / p * p + p = omega arith in
    let after : (t / p + 1 + 1) * p ≡ t / p * p + p + p = omega arith in
    let q : (t + (p - 1)) / p ≡ t / p + 1 = div-eq_of_lt-le p (omega (arith, less, parts, next)) (omega (arith, less, parts, after)) in
    ap (λ k. k * p) q ∙ omega (arith, less, parts, next)
