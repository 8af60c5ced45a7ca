-- What above means at moments and at category places.
use Rattle.std.proofs.Common.{arith}
use Rattle.std.proofs.lemmas.Bool.Decides.{nat_tests}
use Rattle.shelf.specs.Kinds.{Later, Further}

pub later : Later
later k x = grind (arith, nat_tests)

pub further : Further
further k x = grind (arith, nat_tests)
