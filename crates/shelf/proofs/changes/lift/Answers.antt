use Rattle.std.proofs.Common.{◌≡◌, ℕ, ◌<◌, ◌≤◌, length, take, ap, ◌∙◌, arith, rules}
use Rattle.std.proofs.lemmas.Slice.{overwrites}
use Rattle.std.specs.List.{remove}
use Rattle.shelf.proofs.Counted.{take_counted}
use Rattle.shelf.proofs.Turned.{remove_front, remove_rest}
use Rattle.shelf.proofs.changes.lift.Goals as goal

pub returns : goal.returns
returns g c =
    let xs = c.args.entries.now in
    let n = c.args.used in
    let p = c.args.at in
    let end = c.count-end.result in
    let ys = c.rotate_left.new.self in
    let is : end ≡ length (take n xs) = c.count-end.ensures.value in
    let fits : end ≤ length xs = omega arith in
    let at : p < end = omega arith in
    let all : take end xs ≡ take n xs = ap (λ (m : ℕ). take m xs) is ∙ take_counted n xs in
    record {
      count = omega arith;
      list = remove_front xs end p fits at ys c.rotate_left.ensures.after ∙ ap (λ l. remove l p) all;
      rest = remove_rest xs end p fits at ys c.rotate_left.ensures.after n (omega arith);
      len = search (rules, overwrites);
    }
