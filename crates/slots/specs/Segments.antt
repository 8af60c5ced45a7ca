-- What a segment does to an arriving object. The body has B bytes, the segment L; n is its number.
use Rattle.std.specs.Prelude.{ℕ, zero, suc, ◌+◌, ◌-◌, ◌*◌, ◌/◌, ◌%◌, ◌^◌, Bool, true, false, cond, ◌&&◌, ◌||◌, Some, None, Option, ◌==◌, bit_or, nat_le, nat_lt}
use Rattle.slots.specs.declared.progress.Landing.{Landing}
use Rattle.slots.specs.declared.progress.Landing.TheVariants.{Misfit, Again, At}
use Rattle.slots.specs.declared.progress.Progress.{Progress}
use Rattle.slots.specs.declared.progress.Segment.{Segment}

-- the number n is among those taken
abbrev pub has : ℕ → ℕ → Bool
has n taken = taken / 2 ^ n % 2 == 1

-- a piece of q bytes agrees with the piece size, if that is fixed
abbrev pub agrees : Option ℕ → ℕ → Bool
agrees None q = true
agrees (Some p) q = q == p

abbrev pub unfixed : Option ℕ → Bool
unfixed None = true
unfixed (Some p) = false

-- not the last: a whole piece with more behind it
abbrev pub inner_fits : Option ℕ → ℕ → ℕ → ℕ → Bool
inner_fits piece B n L = agrees piece L && nat_lt ((n + 1) * L) B

-- the last: the whole body, or what is left behind n pieces that are no shorter than it
abbrev pub last_fits : Option ℕ → ℕ → ℕ → ℕ → Bool
last_fits piece B n L =
    cond (n == 0) (L == B && unfixed piece) (nat_lt L B && ((B - L) % n == 0 && (nat_le L ((B - L) / n) && agrees piece ((B - L) / n))))

abbrev pub fits : Option ℕ → ℕ → ℕ → Bool → ℕ → Bool
fits piece B n false L = inner_fits piece B n L
fits piece B n true L = last_fits piece B n L

-- where it lies
abbrev pub offset : ℕ → ℕ → Bool → ℕ → ℕ
offset B n false L = n * L
offset B n true L = B - L

-- the piece size with it: a last segment 0 is the one piece of its body
abbrev pub piece_with : ℕ → ℕ → Bool → ℕ → ℕ
piece_with B n false L = L
piece_with B n true L = cond (n == 0) L ((B - L) / n)

-- the last number with it
abbrev pub last_with : Option ℕ → ℕ → Bool → Option ℕ
last_with last n false = last
last_with last n true = Some n

-- where a segment goes: a number above 63 and an empty segment fit nowhere, a number taken before changes nothing
abbrev pub landing : Progress → Segment → Landing
landing p s =
    cond (nat_lt 63 s.number || s.length == 0) Misfit (cond (has s.number p.taken) Again (cond (fits p.piece p.size s.number s.last s.length) (At (offset p.size s.number s.last s.length)) Misfit))

-- the object with the segment
abbrev pub grown : Progress → Segment → Progress
grown p s =
    record { size = p.size; piece = Some (piece_with p.size s.number s.last s.length); last = last_with p.last s.number s.last; taken = bit_or p.taken (2 ^ s.number) }

abbrev pub after_landing : Landing → Progress → Segment → Progress
after_landing Misfit p s = p
after_landing Again p s = p
after_landing (At o) p s = grown p s

-- the object after any segment
abbrev pub after_segment : Progress → Segment → Progress
after_segment p s = after_landing (landing p s) p s

-- all numbers below n are taken
abbrev pub covers : ℕ → ℕ → Bool
covers zero taken = true
covers (suc n) taken = has n taken && covers n taken

-- the last is there, and all before it
abbrev pub complete_with : Option ℕ → ℕ → Bool
complete_with None taken = false
complete_with (Some n) taken = covers n taken

abbrev pub complete : Progress → Bool
complete p = complete_with p.last p.taken
