-- There is room for one more entry on a rack.
use Rattle.std.proofs.Common.{◌≡◌, ◌≤◌, Bool, cond, ltb, List, length, ◌∙◌, arith}
use Rattle.std.proofs.lemmas.Bool.{cond-true, lt-ltb}

-- an entry that is put where fewer than twelve stand is there afterwards
pub put_there : {X : Type 0} (r : Bool) (xs ys zs : List X) → r ≡ ltb (length xs) 12 → zs ≡ cond r ys xs → length xs ≤ 11 → zs ≡ ys
put_there r xs ys zs e q h = q ∙ cond-true r ys xs (e ∙ lt-ltb (length xs) 12 (omega arith))
