-- What a refusing answer leaves, and what a data group replies.
use Rattle.std.specs.Prelude.{◌≡◌}
use Rattle.rules.specs.Calls.{Reply, answered, passed_over}
use Rattle.rules.specs.declared.answers.Answer.{Answer}
use Rattle.rules.specs.declared.answers.Answer.TheVariants.{Taken, Repeat, Filed, Shown, Late, Changed, Refused}
use Rattle.rules.specs.declared.answers.GroupAnswer.{GroupAnswer}
use Rattle.rules.specs.declared.answers.GroupAnswer.TheVariants.{Answered, PassedOver}

-- a refused call leaves the very same thing: a receiver, its data, its display
abbrev pub Stays : {A : Type 0} → Answer → A → A → Type 0
Stays (Refused e) r q = q ≡ r
Stays (Taken n) r q = Unit {0}
Stays (Repeat n) r q = Unit {0}
Stays (Filed n) r q = Unit {0}
Stays (Shown n) r q = Unit {0}
Stays (Late n) r q = Unit {0}
Stays (Changed n) r q = Unit {0}

-- so does a data group that is refused or passed over
abbrev pub GroupStays : {A : Type 0} → GroupAnswer → A → A → Type 0
GroupStays (Answered a) r q = Stays a r q
GroupStays PassedOver r q = q ≡ r

abbrev pub group_reply : GroupAnswer → Reply
group_reply (Answered a) = answered a
group_reply PassedOver = passed_over
