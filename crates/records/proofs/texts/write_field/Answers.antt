use Rattle.std.proofs.Common.{rules}
use Rattle.std.proofs.lemmas.Fmt.{length-decimal-le}
use Rattle.records.proofs.texts.write_field.Goals as goal

-- a number of 64 bits has twenty digits at most
pub write_digits-requires : goal.write_digits-requires
write_digits-requires c = search (rules, length-decimal-le 20)

pub returns-clause-near : goal.returns-clause-near
returns-clause-near c = search (rules, length-decimal-le 20)
