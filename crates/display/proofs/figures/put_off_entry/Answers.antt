use Rattle.std.proofs.Common.{rules, ◌≡◌, length, vec_len, ap, ◌∙◌, arith}
use Rattle.display.proofs.Entries.{put_off_entry, put_off_told}
use Rattle.display.proofs.figures.put_off_entry.Goals as goal

pub returns-clause-figure : goal.returns-clause-figure
returns-clause-figure c = put_off_entry

pub returns-clause-answer : goal.returns-clause-answer
returns-clause-answer c long =
    let glass = c.new-glass.result in
    let film = glass.below.below in
    let result = c.into_film.result in
    let fresh = ap (λ l. l.below) c.new-glass.ensures.0 ∙ c.new-2.ensures.0 in
    let size : length film.tape.items ≡ 15 = omega (arith, film.tape.ok.0, ap (λ f. vec_len f.tape) fresh ∙ ap vec_len c.new.ensures.fields.0 ∙ long) in
    put_off_told film.tape.items film.last glass.below.shift.value glass.shift.value (result.tape.items, result.last) (c.into_film.ensures ∙ c.show_on_tape.ensures.records) (search rules) (search rules) (search rules) size
