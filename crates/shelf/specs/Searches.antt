-- The first of a list that passes a test.
use Rattle.std.specs.Prelude.{◌≡◌, Bool, true, false, cond, List, [], ◌∷◌, ◌++◌, Some, None, Option}
use Rattle.std.specs.List.{AllByRecursion}

module _ {X : Type 0} (test : X → Bool) where
  -- the list without the first that passes
  abbrev pub without_that : List X → List X
  without_that [] = []
  without_that (x ∷ xs) = cond (test x) xs (x ∷ without_that xs)

  -- none passes
  abbrev pub NonePasses : List X → Type 0
  NonePasses xs = AllByRecursion (λ x. test x ≡ false) xs

  -- x passes, it stands in xs between front and back, and none in front of it passes
  pub record FirstAt (xs : List X) (x : X) : Type 0 where
    pub front : List X
    pub back : List X
    pub whole : xs ≡ front ++ x ∷ back
    pub passes : test x ≡ true
    pub none_before : NonePasses front

  -- the answer is the first that passes, or none passes
  abbrev pub First : List X → Option X → Type 0
  First xs None = NonePasses xs
  First xs (Some x) = FirstAt xs x

  -- new is old without the first that passes, the others in their order
  pub record Lost (old new : List X) : Type 0 where
    pub item : X
    pub at : FirstAt old item
    pub left : new ≡ at.front ++ at.back
