-- Triggers: what arming one comes to, and what took effect.
use Rattle.std.specs.Prelude.{ℕ, cond, List, Some, None, Option, ◌==◌, nat_lt}
use Rattle.moment.specs.declared.times.Time.{Time}
use Rattle.moment.specs.declared.times.Time.TheVariants.{Now, At}

-- there is no trigger, it takes effect at once, it is late and never does, or it waits for its moment
pub data Verdict : Type 0 where
  nothing : Verdict
  effect : Verdict
  late : Verdict
  wait : ℕ → Verdict

-- Now and a moment equal to the clock take effect at once, a lower one is late, a higher one waits
abbrev pub verdict : ℕ → Option Time → Verdict
verdict clock None = nothing
verdict clock (Some Now) = effect
verdict clock (Some (At m)) = cond (m == clock) effect (cond (nat_lt m clock) late (wait m))

-- what took effect: a slide by its accession number, the moment, and its body
pub record Effect : Type 0 where
  pub number : ℕ
  pub moment : ℕ
  pub body : List ℕ
