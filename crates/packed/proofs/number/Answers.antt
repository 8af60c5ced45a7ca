use Rattle.std.proofs.Common.{◌≡◌, ℕ, ◌+◌, ◌*◌, ◌^◌, ◌<◌, ◌≤◌, get_or, drop, sym, ap, ◌∙◌, arith, pow_mono, pow-add}
use Rattle.std.proofs.lemmas.List.{at_drop_more, at_drop_all}
use Rattle.packed.specs.Bits.{whole_from}
use Rattle.packed.proofs.number.Goals as goal

-- one byte more
wider : (n b i : ℕ) → n < 2 ^ (8 * i) → b < 256 → n * 256 + b < 2 ^ (8 * (i + 1))
wider n b i h k =
    let e : 8 * (i + 1) ≡ 8 * i + 8 = omega arith in
    let p : 2 ^ (8 * (i + 1)) ≡ 2 ^ (8 * i) * 256 = ap (λ (m : ℕ). 2 ^ m) e ∙ pow-add 2 (8 * i) 8 in
    omega arith

-- up to eight of them fit
fits : (n b i : ℕ) → i < 8 → n < 2 ^ (8 * i) → b < 256 → n * 256 + b < 18446744073709551616
fits n b i l h k =
    let m : 8 * (i + 1) ≤ 64 = omega arith in
    let p : 2 ^ (8 * (i + 1)) ≤ 2 ^ 64 = pow_mono m in
    omega (arith, wider n b i h k)

pub overflow_mul-n : goal.overflow_mul-n
overflow_mul-n c = omega (arith, fits c.loop-b.n 0 c.loop-b.b-index (omega arith) c.loop-b.invariant.1 (omega arith))

pub overflow_add-n : goal.overflow_add-n
overflow_add-n c = omega (arith, fits c.loop-b.n c.from.result c.loop-b.b-index (omega arith) c.loop-b.invariant.1 (omega (arith, c.type_inv.bytes c.loop-b.b-index)))

pub loop-b-preserved : goal.loop-b-preserved
loop-b-preserved c =
    let xs = c.args.bytes.now in
    let i = c.loop-b.b-index in
    let n = c.loop-b.n in
    let step : whole_from n (drop i xs) ≡ whole_from (n * 256 + get_or xs i 0) (drop (i + 1) xs) = at_drop_more (whole_from n) xs i 0 c.loop-b-test.true in (
      ap (λ (b : ℕ). whole_from (n * 256 + b) (drop (i + 1) xs)) c.from.ensures ∙ sym step ∙ c.loop-b.invariant.0,
      wider n c.from.result i c.loop-b.invariant.1 (omega (arith, c.type_inv.bytes i)),
    )

pub returns : goal.returns
returns c =
    let xs = c.args.bytes.now in
    let done : whole_from c.loop-b.n (drop c.loop-b.b-index xs) ≡ c.loop-b.n = at_drop_all (whole_from c.loop-b.n) xs c.loop-b.b-index (omega arith) in
    (omega arith, sym done ∙ c.loop-b.invariant.0)
