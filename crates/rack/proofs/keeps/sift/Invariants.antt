use Rattle.rack.proofs.keeps.sift.Given as goal
use Rattle.std.proofs.lemmas.List.Filters.{FiltersInPlace}

-- what passes among the entries looked at stands at the front
abbrev pub invariant-loop-i : goal.invariant-loop-i
invariant-loop-i g l = FiltersInPlace (g.T.EntryTest.test l.test) l.initial.entries l.entries l.next l.i
