use Rattle.std.proofs.Common.{◌≡◌, ℕ, List, length, ap, ◌∙◌, arith}
use Rattle.display.specs.Tape.{length_at}
use Rattle.display.proofs.Taped.{length_back, film_shown}
use Rattle.display.proofs.films.Film.append.Goals as goal

pub invariant_of-self : goal.invariant_of-self
invariant_of-self c =
    let film = c.args.self.now in
    let at = c.place-at.result in
    let b = c.args.body.now in
    let long : length_at c.write_entry.new.tape.items at ≡ length b =
    ap (λ (xs : List ℕ). length_at xs at) c.write_entry.ensures.items
    ∙ length_back film.tape.items at c.args.accession c.args.since b (omega (arith, c.place-at.ensures.fits, film.tape.ok.0)) (omega arith) (omega arith) (omega arith) in
    record { within = omega (arith, long, c.place-at.ensures.fits, c.write_entry.ensures.len) }

pub returns-clause-means : goal.returns-clause-means
returns-clause-means c =
    let film = c.args.self.now in
    film_shown film.tape.items c.place-at.result c.args.accession c.args.since c.args.body.now (omega (arith, c.place-at.ensures.fits, film.tape.ok.0)) (omega arith) (omega arith) (omega arith) _ film.last c.write_entry.ensures.items
