use Rattle.std.proofs.Common.{rules, ◌≡◌, length, vec_len, ap, ◌∙◌, arith}
use Rattle.display.proofs.Entries.{two_entries, two_told}
use Rattle.display.proofs.figures.two_entries.Goals as goal

pub returns-clause-figure : goal.returns-clause-figure
returns-clause-figure c = two_entries

pub returns-clause-answer : goal.returns-clause-answer
returns-clause-answer c long =
    let film = c.new-film.result in
    let size : length film.tape.items ≡ 30 = omega (arith, film.tape.ok.0, ap vec_len c.new-film.ensures.fields.0 ∙ long) in
    let one = c.show_on_tape.new.display in
    let two = c.show_on_tape-2.new.display in
    two_told (film.tape.items, film.last) (one.tape.items, one.last) (two.tape.items, two.last) (search rules) (search rules) c.new-film.ensures.fields.1 size
