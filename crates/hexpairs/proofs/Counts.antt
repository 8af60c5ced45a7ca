-- How many lines a text has: at most as many as it has bytes.
use Rattle.std.proofs.Common.{ℕ, ◌+◌, ◌≤◌, Bool, true, false, cond, eqb, List, [], ◌∷◌, ◌++◌, length, arith, length-append}
use Rattle.hexpairs.specs.Lines.{lines_from, lines_of}

-- of two lists, either is short enough
either : (b : Bool) (xs ys : List (List ℕ)) (n : ℕ) → length xs ≤ n → length ys ≤ n → length (cond b xs ys) ≤ n
either true xs ys n h k = h
either false xs ys n h k = k

-- with `line` read so far there may be one more
from_most : (line xs : List ℕ) → length (lines_from line xs) ≤ length line + length xs
from_most [] [] = omega arith
from_most (a ∷ line) [] =
    either (eqb (length (a ∷ line)) 0) [] ((a ∷ line) ∷ []) (length (a ∷ line) + 0) (omega arith) (omega arith)
from_most line (c ∷ cs) =
    either (eqb c 10) (line ∷ lines_from [] cs) (lines_from (line ++ c ∷ []) cs) (length line + length (c ∷ cs)) (omega (arith, from_most [] cs)) (omega (arith, from_most (line ++ c ∷ []) cs, length-append {A = ℕ} line (c ∷ [])))

pub lines_most : (xs : List ℕ) → length (lines_of xs) ≤ length xs
lines_most xs = omega (arith, from_most [] xs)
