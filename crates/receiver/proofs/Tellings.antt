-- A filing and an update answer by what arming the trigger came to.
use Rattle.std.proofs.Common.{◌≡◌, ℕ, refl}
use Rattle.receiver.specs.Verdicts.{told_by}
use Rattle.rules.specs.Assembly.{told_filing}
use Rattle.rules.specs.Headers.{told_update}
use Rattle.rules.specs.Triggers.{Verdict, nothing, effect, late, wait}
use Rattle.rules.specs.declared.answers.Answer.TheVariants.{Filed, Changed}

pub filing_told : (v : Verdict) (n : ℕ) → told_by v n (Filed n) ≡ told_filing v n
filing_told nothing n = refl
filing_told effect n = refl
filing_told late n = refl
filing_told (wait m) n = refl

pub update_told : (v : Verdict) (n : ℕ) → told_by v n (Changed n) ≡ told_update v n
update_told nothing n = refl
update_told effect n = refl
update_told late n = refl
update_told (wait m) n = refl
