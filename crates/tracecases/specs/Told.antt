-- What the program writes of a list of cases.
use Rattle.std.specs.Prelude.{ℕ, zero, suc, List, [], ◌∷◌, ◌++◌, length, Some, None, Option}
use Rattle.trace.specs.Printed.{printed}
use Rattle.tracecases.specs.Cases.{Case, first_case}

-- a number sign, a space, the name and a line feed
abbrev pub heading : List ℕ → List ℕ
heading name = 35 ∷ 32 ∷ name ++ 10 ∷ []

-- a case's heading, and what is printed of its trace
abbrev pub case_told : Case → List ℕ
case_told c = heading c.name ++ printed c.trace

-- a case and what is left behind it
abbrev pub and_on : Option (Case × List ℕ) → (List ℕ → List ℕ) → List ℕ
and_on None f = []
and_on (Some t) f = case_told t.0 ++ f t.1

-- the cases of xs, of which n is at least the length
abbrev pub told_from : ℕ → List ℕ → List ℕ
told_from zero xs = []
told_from (suc n) xs = and_on (first_case xs) (λ left. told_from n left)

-- all cases of an input, up to one that runs past the end
abbrev pub told : List ℕ → List ℕ
told xs = told_from (length xs) xs
