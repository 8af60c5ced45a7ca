use Rattle.std.proofs.Common.{◌<◌, length, vec_items, sym, ap, ◌∙◌, rules}
use Rattle.hexpairs.specs.Text.{bytes_of}
use Rattle.hexpairs.proofs.Steps.{onto, behind, past_blank, read_pair, onto_more}
use Rattle.hexpairs.proofs.hex_bytes.Goals as goal

pub loop-left-preserved-then-is_blank : goal.loop-left-preserved-then-is_blank
loop-left-preserved-then-is_blank c =
    let xs = c.loop-left.left.now in
    let some : 0 < length xs = search rules in
    ap (onto (vec_items c.loop-left.bytes)) (sym (past_blank xs some (sym c.if-is_blank.ensures))) ∙ c.loop-left.invariant

pub loop-left-preserved : goal.loop-left-preserved
loop-left-preserved c =
    let xs = c.loop-left.left.now in
    let was = vec_items c.loop-left.bytes in
    let some : 0 < length xs = search rules in
    let more : 0 < length (behind xs) = search rules in
    onto_more was (vec_items c.push.new.self) c.in-Some.b (bytes_of (behind (behind xs))) c.in_ok-push.ensures.items ∙ read_pair was xs _ some more c.if-is_blank.ensures c.in-Some.ensures ∙ c.loop-left.invariant
