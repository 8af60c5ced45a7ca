-- The receiver's plain data as the rules see it.
use Rattle.std.specs.Prelude.{ℕ, List, [], replicate, Ok, Err, Result}
use Rattle.display.specs.Meaning.{Meaning}
use Rattle.receiver.specs.States.{state_from}
use Rattle.receiver.specs.declared.parts.Parts.{Parts}
use Rattle.refusal.specs.declared.Fault.{Fault}
use Rattle.rules.specs.Calls.{Reply, counted, refused}
use Rattle.rules.specs.Worlds.{State, World}
use Rattle.rules.specs.declared.answers.Answer.{Answer}
use Rattle.rules.specs.declared.answers.Answer.TheVariants.{Refused}
use Rattle.slots.specs.Slides.{free}

abbrev pub state_of : Parts → State
state_of p = state_from p.clock p.given p.recent p.room p.slots p.waiting p.places

-- before the first call: the first slot given will be slot 0
abbrev pub fresh_state : ℕ → State
fresh_state room =
    record { clock = 0; given = 0; recent = 11; room = room; slots = replicate 12 free; waiting = []; places = [] }

-- with body memory, and what the display means
abbrev pub world_of : Parts → List ℕ → Meaning → World
world_of p memory m = record { state = state_of p; memory = memory; display = m }

-- what a setting or a reading answers: its number of shows, or a refusal
abbrev pub told : Result ℕ Fault → Reply
told (Ok n) = counted n
told (Err e) = refused e

-- what a header or a segment answers
abbrev pub said : Result Answer Fault → Answer
said (Ok a) = a
said (Err e) = Refused e
