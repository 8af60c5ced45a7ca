-- How a time is printed: now, or its moment in base ten.
use Rattle.std.specs.Prelude.{ℕ, List, codes}
use Rattle.std.specs.Fmt.{decimal}
use Rattle.moment.specs.declared.times.Time.{Time}
use Rattle.moment.specs.declared.times.Time.TheVariants.{Now, At}

abbrev pub time_text : Time → List ℕ
time_text Now = codes "now"
time_text (At m) = decimal m
