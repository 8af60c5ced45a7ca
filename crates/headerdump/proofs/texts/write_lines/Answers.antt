use Rattle.std.proofs.Common.{◌≡◌, ◌+◌, ◌++◌, length, string_bytes, inl, ap, arith, rules}
use Rattle.hexpairs.proofs.Counts.{lines_most}
use Rattle.hexpairs.specs.Lines.{left_of, lines_of}
use Rattle.std.specs.Iterator.Adapters.{enumerate_source, enumerate_count}
use Rattle.headerdump.specs.Dumped.{lines_from}
use Rattle.headerdump.specs.declared.texts.TheConstants.{FIRST_LINE}
use Rattle.headerdump.proofs.texts.write_lines.Goals as goal

pub loop-i-init-derived : goal.loop-i-init-derived
loop-i-init-derived c =
    let most = lines_most c.args.input.now in
    let it = c.into_iter-i-iterator.result in
    let left : left_of (enumerate_source it) ≡ lines_of c.args.input.now = search rules in
    let none : enumerate_count it ≡ 0 = search rules in
    ((tt, tt, inl (omega (arith, ap length left))), tt)

pub loop-i-init : goal.loop-i-init
loop-i-init c =
    let most = lines_most c.args.input.now in
    let it = c.into_iter-i-iterator.result in
    let left : left_of (enumerate_source it) ≡ lines_of c.args.input.now = search rules in
    let none : enumerate_count it ≡ 0 = search rules in
    record {
      fits = omega (arith, ap length left);
      text = λ i. string_bytes c.args.text.now ++ lines_from c.args.slot_size (none i + FIRST_LINE) (left i);
    }
