use Rattle.std.proofs.Common.{ℕ, take, drop, length, sym, refl, ap, ◌∙◌, subst}
use Rattle.std.specs.List.{remove}
use Rattle.shelf.specs.Places.{carries, Ascending}
use Rattle.shelf.specs.Searches.{Lost}
use Rattle.shelf.proofs.Firsts.{removed_first, lost}
use Rattle.shelf.proofs.Found.{without_none}
use Rattle.shelf.proofs.Ordered.{ascending_without}
use Rattle.shelf.proofs.Steps.{no_place, some_place}
use Rattle.shelf.proofs.changes.remove.Goals as goal

pub returns-in_err-at : goal.returns-in_err-at
returns-in_err-at g c =
    let xs = take c.args.used c.args.entries.now in
    let test = carries c.args.load in
    let is = rw c.listed.ensures.value at c.place_of_load.ensures in
    let none = no_place test xs (sym is ∙ c.in_err-at.was) in
    rw c.from_residual.ensures record {
      answer = (none, refl {a = c.args.entries.now});
      list = sym (without_none test xs none);
      rest = refl {a = drop c.args.used c.args.entries.now};
      len = refl {a = length c.args.entries.now};
      order = λ cmp up. up;
      law = tt;
    }

pub lift-requires : goal.lift-requires
lift-requires g c =
    let is = rw c.listed.ensures.value at c.place_of_load.ensures in
    (some_place (carries c.args.load) (take c.args.used c.args.entries.now) c.in_ok-at.at (sym is ∙ c.in_ok-at.was)).1

pub returns : goal.returns
returns g c =
    let xs = take c.args.used c.args.entries.now in
    let test = carries c.args.load in
    let is = rw c.listed.ensures.value at c.place_of_load.ensures in
    let there = some_place test xs c.in_ok-at.at (sym is ∙ c.in_ok-at.was) in
    let list = c.lift.ensures.list ∙ ap (λ (i : ℕ). remove xs i) (sym there.0) ∙ removed_first test xs in
    record {
      answer = (there.2, c.lift.ensures.count);
      list = list;
      rest = c.lift.ensures.rest;
      len = c.lift.ensures.len;
      order = λ cmp up. subst (Ascending cmp) (sym list) (ascending_without cmp test xs up);
      law = subst (Lost test xs) (sym list) (lost test xs there.2);
    }
