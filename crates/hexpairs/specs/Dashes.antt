-- How a value that may be missing is printed.
use Rattle.std.specs.Prelude.{ℕ, List, Some, None, Option, codes}

-- a value's text, or a dash where none is given
abbrev pub text_or_dash : {A : Type 0} → (A → List ℕ) → Option A → List ℕ
text_or_dash text None = codes "-"
text_or_dash text (Some x) = text x

-- the same of a type whose values may promise no text
abbrev pub or_dash : {A : Type 0} → (A → Option (List ℕ)) → Option A → Option (List ℕ)
or_dash printed None = Some (codes "-")
or_dash printed (Some x) = printed x
