use Rattle.std.proofs.Common.{rules, ℕ, List, ◌∷◌, ◌++◌, ap, ◌∙◌, drop, decimal}
use Rattle.std.proofs.lemmas.List.{drop_all}
use Rattle.records.proofs.Spelled.{line_spelled}
use Rattle.records.proofs.texts.write_line.Goals as goal

-- each field stands before the ones written so far
pub returns-clause-written : goal.returns-clause-written
returns-clause-written c =
    line_spelled
    c.args.line.now
    (drop c.write_field-at.result c.write_field-at.new.text)
    (drop c.write_field-at-2.result c.write_field-at-2.new.text)
    (drop c.write_field-at-3.result c.write_field-at-3.new.text)
    (drop c.write_field.result c.write_field.new.text)
    (c.write_field-at.ensures.written
    ∙ ap (λ (xs : List ℕ). decimal c.args.line.now.since ++ 10 ∷ xs)
    (drop_all 84 c.args.text.now (search rules)))
    (search rules)
    (search rules)
    (search rules)
