-- What a list of cases says: each has a name and a trace, with their lengths in front of them.
use Rattle.std.specs.Prelude.{ℕ, cond, List, [], ◌∷◌, length, take, drop, Some, None, Option, nat_le}
use Rattle.std.specs.Borrow.{Bor}
use Rattle.packed.specs.Bits.{whole}
use Rattle.std.specs.Option.{option_map}
use Rattle.tracecases.specs.declared.cases.Case as plain

pub record Case : Type 0 where
  pub name : List ℕ
  pub trace : List ℕ

-- the first n bytes and those behind them; none where they run past the end
abbrev pub parted : ℕ → List ℕ → Option (List ℕ × List ℕ)
parted n xs = cond (nat_le n (length xs)) (Some (take n xs, drop n xs)) None

-- a length of one byte, and a name of that length
abbrev pub name_in : List ℕ → Option (List ℕ × List ℕ)
name_in [] = None
name_in (n ∷ xs) = parted n xs

-- a length of two bytes, and a trace of that length
abbrev pub trace_in : List ℕ → Option (List ℕ × List ℕ)
trace_in [] = None
trace_in (a ∷ []) = None
trace_in (a ∷ b ∷ xs) = parted (whole (a ∷ b ∷ [])) xs

abbrev pub with_trace : List ℕ → Option (List ℕ × List ℕ) → Option (Case × List ℕ)
with_trace name None = None
with_trace name (Some t) = Some (record { name = name; trace = t.0 }, t.1)

abbrev pub with_name : Option (List ℕ × List ℕ) → Option (Case × List ℕ)
with_name None = None
with_name (Some t) = with_trace t.0 (trace_in t.1)

-- the first case and the bytes behind it; none where it runs past the end
abbrev pub first_case : List ℕ → Option (Case × List ℕ)
first_case xs = with_name (name_in xs)

-- what the code reads, by the bytes that it points to
abbrev pub seen_parts : Option (Bor (List ℕ) × Bor (List ℕ)) → Option (List ℕ × List ℕ)
seen_parts o = option_map (λ t. (t.0.now, t.1.now)) o

abbrev pub seen : plain.Case → Case
seen c = record { name = c.name.now; trace = c.trace.now }

abbrev pub seen_case : Option (plain.Case × Bor (List ℕ)) → Option (Case × List ℕ)
seen_case o = option_map (λ t. (seen t.0, t.1.now)) o
