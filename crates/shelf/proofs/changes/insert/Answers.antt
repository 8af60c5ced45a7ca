use Rattle.std.proofs.Common.{◌≡◌, ℕ, ◌+◌, ◌-◌, ◌≤◌, length, take, set, sym, refl, ap, ◌∙◌, subst, arith, rules}
use borrow.Rule.Slice.PartMut.{put_mid}
use Rattle.std.proofs.lemmas.List.{length-take-le}
use Rattle.std.proofs.lemmas.Slice.{overwrites}
use Rattle.std.specs.List.{insert}
use Rattle.shelf.specs.Laws.{Arrived, InTurn}
use Rattle.shelf.specs.Places.{shelved, Ascending}
use Rattle.shelf.proofs.Ordered.{inserted_shelved, ascending_shelved, arrived, in_turn}
use Rattle.shelf.proofs.Turned.{insert_front, insert_rest}
use Rattle.shelf.proofs.changes.insert.Goals as goal

pub returns : goal.returns
returns g c =
    let xs = c.args.entries.now in
    let n = c.args.used in
    let e = c.args.entry in
    let o = g.met.K.Ord.total in
    let p = c.place-at.result in
    let ys = c.rotate_right.new.self in
    let room : n ≤ length xs = omega arith in
    let bound : p ≤ length (take n xs) = rw c.listed.ensures.value at c.place-at.ensures.bound in
    let at : p ≤ n = omega (arith, length-take-le n xs room) in
    let list : take (n + 1) (put_mid p (n + 1 - p) (set xs n e) ys) ≡ shelved g.K.Ord.cmp e (take n xs) =
    let place = rw c.listed.ensures.value at c.place-at.ensures.value in
    insert_front xs e n p (omega arith) at ys c.rotate_right.ensures.after
    ∙ ap (λ (i : ℕ). insert (take n xs) i e) place
    ∙ inserted_shelved g.K.Ord.cmp e (take n xs) in
    record {
      answer = (omega arith, refl);
      list = list;
      rest = insert_rest xs e n p (omega arith) at ys c.rotate_right.ensures.after;
      len = search (rules, overwrites);
      order = λ up. subst (Ascending g.K.Ord.cmp) (sym list) (ascending_shelved o e (take n xs) up);
      law = λ up. subst (Arrived g.K.Ord.cmp e (take n xs)) (sym list) (arrived o e (take n xs) up);
      turn = λ up. subst (InTurn g.K.Ord.cmp e (take n xs)) (sym list) (in_turn o e (take n xs) up);
    }
