-- The calls that records make.
use Rattle.std.specs.Prelude.{List, [], ◌∷◌, Ok, Err, Result}
use Rattle.calls.specs.declared.Call as plain
use Rattle.refusal.specs.declared.Fault.{Fault}
use Rattle.rules.specs.Calls.{Call, card}

-- a record sends its call, if it has one, and asks for the card
abbrev pub calls_from : List (Result Call Fault) → List Call
calls_from [] = []
calls_from (Ok c ∷ rs) = c ∷ card ∷ calls_from rs
calls_from (Err e ∷ rs) = card ∷ calls_from rs

-- the same of one record of the code
abbrev pub sends : Result plain.Call Fault → List plain.Call
sends (Ok c) = c ∷ plain.TheVariants.Card ∷ []
sends (Err e) = plain.TheVariants.Card ∷ []
