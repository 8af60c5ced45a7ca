use Rattle.std.proofs.Common.{◌≡◌, ℕ, ◌+◌, ◌-◌, List, ◌++◌, length, take, sym, ap, ◌∙◌, arith}
use borrow.Rule.Slice.PartMut.{put_mid}
use Rattle.std.proofs.lemmas.List.{drop-drop}
use Rattle.std.proofs.lemmas.Bool.{le-leb}
use Rattle.packed.specs.Parts.{pasted}
use Rattle.packed.proofs.paste.Goals as goal

put_is : (xs ys part : List ℕ) (at : ℕ) → ys ≡ part → put_mid at (at + length part - at) xs ys ≡ pasted xs at part
put_is xs ys part at e =
    let size : at + length part - at ≡ length part = omega arith in
    ap (λ (k : ℕ). put_mid at k xs ys) size
    ∙ ap (λ (z : List ℕ). put_mid at (length part) xs z) e
    ∙ ap (λ (z : List ℕ). take at xs ++ (part ++ z)) (drop-drop (length part) at xs)

pub returns : goal.returns
returns c = record {
  fits = sym (le-leb _ _ (omega arith));
  after = put_is c.args.memory.now c.copy_from_slice.new.self c.args.part.now c.args.at c.copy_from_slice.ensures.after;
}
