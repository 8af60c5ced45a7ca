-- What a data group does: the header or the segment call that it asks, or nothing.
use Rattle.std.specs.Prelude.{ℕ, List, cond, Ok, Err, Result}
use Rattle.datagroup.specs.Groups as groups
use Rattle.datagroup.specs.Groups.{Group, group_of}
use Rattle.refusal.specs.declared.Fault.{Fault}
use Rattle.refusal.specs.declared.causes.Cause.TheVariants.{BodyMemoryMisfit}
use Rattle.rules.specs.Assembly.{segment_step}
use Rattle.rules.specs.Calls.{Call, header, segment, group, time, find_name, next_place, body_of, card, card_byte, slot_size, Reply, answered, passed_over}
use Rattle.rules.specs.Headers.{receiver_fault, header_step}
use Rattle.rules.specs.Worlds.{World, fits_memory}
use Rattle.rules.specs.declared.answers.Answer.{Answer}
use Rattle.rules.specs.declared.answers.Answer.TheVariants.{Refused}

abbrev pub as_answer : Answer × World → Reply × World
as_answer x = (answered x.0, x.1)

abbrev pub on_group : Result Group Fault → World → Reply × World
on_group (Err e) w = (answered (Refused e), w)
on_group (Ok (groups.header t xs)) w = as_answer (header_step w t xs)
on_group (Ok (groups.segment t n last xs)) w = as_answer (segment_step w t n last xs)
on_group (Ok groups.other) w = (passed_over, w)

unfoldable pub group_step : World → List ℕ → Reply × World
group_step w xs =
    cond (fits_memory w) (on_group (group_of xs) w) (answered (Refused (receiver_fault BodyMemoryMisfit)), w)

-- the call that a group asks, in its place; where it asks none, the call that was there
abbrev pub asked_by : Result Group Fault → Call → Call
asked_by (Err e) c = c
asked_by (Ok (groups.header t xs)) c = header t xs
asked_by (Ok (groups.segment t n last xs)) c = segment t n last xs
asked_by (Ok groups.other) c = c

-- each data group gives way to the call that it asks
abbrev pub plainly : Call → Call
plainly (header t xs) = header t xs
plainly (segment t n last xs) = segment t n last xs
plainly (group xs) = asked_by (group_of xs) (group xs)
plainly (time xs) = time xs
plainly (find_name n) = find_name n
plainly (next_place p) = next_place p
plainly (body_of n) = body_of n
plainly card = card
plainly (card_byte i) = card_byte i
plainly slot_size = slot_size
