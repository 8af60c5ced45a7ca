use Rattle.std.proofs.Common.{◌<◌, length, sym, ◌∙◌, arith}
use Rattle.std.proofs.lemmas.List.Filters.{FiltersInPlace-more_set, FiltersInPlace-more_no}
use Rattle.rack.proofs.keeps.sift.Goals as goal

pub loop-i-preserved : goal.loop-i-preserved
loop-i-preserved g c =
    let inside : c.loop-i.i < length c.loop-i.entries = omega arith in
    elim c.if-passes.branch [
      | goal.then-passes w ↦ rw (w.entries-is, w.next-is) (FiltersInPlace-more_set c.loop-i.invariant inside (sym c.passes.ensures ∙ w.if-passes.true) c.index-entries-i.is)
      | goal.else-passes w ↦ rw (w.entries-is, w.next-is) (FiltersInPlace-more_no c.loop-i.invariant inside (sym c.passes.ensures ∙ w.if-passes.false) c.index-entries-i.is)
    ]
