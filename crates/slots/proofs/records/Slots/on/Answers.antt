use Rattle.std.proofs.Common.{◌≡◌, ◌<◌, map, length, get_or, sym, ◌∙◌, arith}
use Rattle.header.specs.Kept.{no_name}
use Rattle.std.proofs.lemmas.List.{get_or-map}
use Rattle.slots.specs.Seen.{seen, label, event_of}
use Rattle.slots.specs.Slides.{moved, free}
use Rattle.slots.proofs.Changed.{write_map}
use Rattle.slots.proofs.records.Slots.on.Goals as goal

pub returns-then-k-lt12-clause-seen : goal.returns-then-k-lt12-clause-seen
returns-then-k-lt12-clause-seen c =
    let xs = c.args.self.now.records in
    let k = c.args.k in
    let d = c.index-slots-k.result in
    let there : k < length xs = omega (arith, c.args.self.now.twelve) in
    let e : label (get_or xs k d) ≡ get_or (map label xs) k no_name = sym (get_or-map label xs k d no_name there) in
    let s : seen (get_or xs k d) ≡ get_or (map seen xs) k free = sym (get_or-map seen xs k d free there) in
    write_map seen xs k _ _ (c.on.ensures.seen ∙ (λ i. moved (event_of c.args.event (e i)) (s i)))
