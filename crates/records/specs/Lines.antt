-- The line of each record, from the replies to its calls.
use Rattle.std.specs.Prelude.{ℕ, ◌+◌, List, [], ◌∷◌, map, Some, None, Ok, Err, Option, Result}
use Rattle.std.specs.Borrow.{Bor}
use Rattle.calls.specs.Plain.{reply_of, fault_of}
use Rattle.calls.specs.declared.Reply as plain
use Rattle.display.specs.declared.cards.CardNumbers.{CardNumbers}
use Rattle.refusal.specs.Numbers.{number_of}
use Rattle.refusal.specs.declared.Fault.{Fault}
use Rattle.rules.specs.Calls.{Call, Reply, answered, passed_over, counted, refused, found, placed, bytes, shows, byte, sized}
use Rattle.std.specs.Option.{option_map}
use Rattle.records.specs.declared.facts.Line.{Line}

-- the card that a reply tells
abbrev pub card_in : Reply → Option CardNumbers
card_in (answered a) = None
card_in passed_over = None
card_in (counted n) = None
card_in (refused e) = None
card_in (found n) = None
card_in (placed p) = None
card_in (bytes xs) = None
card_in (shows c) = c
card_in (byte b) = None
card_in (sized n) = None

-- the number of a refusal, or 0
abbrev pub number_or_0 : Option Fault → ℕ
number_or_0 None = 0
number_or_0 (Some e) = number_of e.cause

-- a line with a card's accession number and the moment since when it shows, or 0 and 0
abbrev pub line_with : ℕ → Option Fault → Option CardNumbers → Line
line_with n refusal None = record { number = n; refusal = number_or_0 refusal; accession = 0; since = 0 }
line_with n refusal (Some c) = record { number = n; refusal = number_or_0 refusal; accession = c.accession; since = c.since }

-- the line of record n, with its refusal and the reply that tells the card
abbrev pub line_of : ℕ → Option Fault → Reply → Line
line_of n refusal r = line_with n refusal (card_in r)

-- a line with the card that the first reply tells, and the replies behind it
abbrev pub with_card : ℕ → Option Fault → List Reply → Option (Line × List Reply)
with_card n refusal [] = None
with_card n refusal (r ∷ rs) = Some (line_of n refusal r, rs)

-- a record's line and the replies behind its own: a call's reply and the card, or the card alone; none where a reply is missing
abbrev pub told : ℕ → Result Call Fault → List Reply → Option (Line × List Reply)
told n (Ok c) [] = None
told n (Ok c) (r ∷ rs) = with_card n (fault_of r) rs
told n (Err e) rs = with_card n (Some e) rs

-- a line and those of what is left
abbrev pub and_on : Option (Line × List Reply) → (List Reply → List Line) → List Line
and_on None f = []
and_on (Some t) f = t.0 ∷ f t.1

-- the lines of the records, of which the first has number n
abbrev pub lines_from : ℕ → List (Result Call Fault) → List Reply → List Line
lines_from n [] rs = []
lines_from n (x ∷ xs) rs = and_on (told n x rs) (λ left. lines_from (n + 1) xs left)

-- what the code tells, by the replies that it points to
abbrev pub seen_told : Option (Line × Bor (List plain.Reply)) → Option (Line × List Reply)
seen_told o = option_map (λ t. (t.0, map reply_of t.1.now)) o
