use Rattle.std.proofs.Common.{rules, ◌≡◌, ◌+◌, ◌/◌, ◌%◌, take, drop, ap, ◌∙◌, arith}
use Rattle.std.proofs.lemmas.List.{drop-drop, take_rest}
use Rattle.std.proofs.lemmas.Option.{MatchOption-at_some}
use Rattle.packed.specs.Bits.{whole}
use Rattle.display.specs.Tape.{accession_at, since_at, length_at}
use Rattle.display.proofs.Heads.{whole_four, whole_eight}
use Rattle.display.proofs.films.numbers_at.Goals as goal

pub returns : goal.returns
returns c =
    let xs = c.args.tape.now in
    let at = c.args.at in
    let front = MatchOption-at_some _ _ _ c.unwrap.ensures c.split_first_chunk.ensures.cases in
    let back = MatchOption-at_some _ _ _ c.unwrap-2.ensures c.split_first_chunk-2.ensures.cases in
    let first : c.unwrap.result.0.now ≡ take 4 (drop at xs) = front.0 ∙ ap (take 4) (take_rest xs at) in
    let rest : c.unwrap.result.1.now ≡ drop 4 (drop at xs) = front.1 ∙ ap (drop 4) (take_rest xs at) in
    let second : c.unwrap-2.result.0.now ≡ take 8 (drop (at + 4) xs) = back.0 ∙ ap (take 8) (rest ∙ drop-drop 4 at xs) in
    let accession : c.from_be_bytes.result ≡ whole (take 4 (drop at xs)) = search (rules, whole_four) in
    let word : c.from_be_bytes-word.result ≡ whole (take 8 (drop (at + 4) xs)) = search (rules, whole_eight) in
    let a : c.from_be_bytes.result ≡ accession_at xs at = omega (arith, accession) in
    let s : c.from_be_bytes-word.result / 1048576 ≡ since_at xs at = omega (arith, word) in
    let l : c.from_be_bytes-word.result % 1048576 ≡ length_at xs at = omega (arith, word) in
    λ i. record { accession = a i; since = s i; length = l i }
