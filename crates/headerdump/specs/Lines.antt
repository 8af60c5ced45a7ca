-- What a line of hexadecimal digits says as a header.
use Rattle.std.specs.Prelude.{ℕ, List, Some, None, Ok, Err, Option, Result}
use Rattle.refusal.specs.declared.Fault.{Fault}
use Rattle.header.specs.Headers.{HeaderRecord, header_of, record_of}
use Rattle.header.specs.declared.kinds.Header.{Header}
use Rattle.headerdump.specs.declared.answers.NoHeader.{NoHeader}
use Rattle.headerdump.specs.declared.answers.NoHeader.TheVariants.{NoBytes, Refused}

-- what a line says: nothing where it spells no bytes, else what they say as a header
abbrev pub line_of : Option (List ℕ) → ℕ → Option (Result HeaderRecord Fault)
line_of None slot = None
line_of (Some xs) slot = Some (header_of xs slot)

-- the same of an answer of the code
abbrev pub seen_line : Result Header NoHeader → Option (Result HeaderRecord Fault)
seen_line (Ok h) = Some (Ok (record_of h))
seen_line (Err NoBytes) = None
seen_line (Err (Refused e)) = Some (Err e)
