use Rattle.std.proofs.Common.{◌≡◌, ℕ, ◌+◌, ◌<◌, Bool, true, false, cond, List, map, length, get_or, set, sym, refl, ap, ◌∙◌, arith}
use Rattle.std.proofs.lemmas.List.{length-map}
use Rattle.std.proofs.lemmas.Bool.{cond-true, cond-false}
use Rattle.header.specs.Kept.{name_of}
use Rattle.slots.specs.Seen.{seen, label}
use Rattle.slots.specs.Slides as slides
use Rattle.slots.specs.Slides.{free}
use Rattle.slots.specs.declared.records.Slot.{Slot}
use Rattle.slots.proofs.Changed.{same_map}
use Rattle.slots.proofs.Vacated.{upto, upto_more}
use Rattle.slots.proofs.finds.clear_all.Goals as goal
use Rattle.slots.proofs.finds.clear_all.Goals.{then-passes, else-passes}

-- a slot that is cleared, or left, as the test says
one_more : (test : slides.Slot → Bool) (first rs new : List Slot) (i : ℕ) (d y : Slot) → i < length first → length rs ≡ length first → (map seen rs ≡ upto test (map seen first) i) × (map label rs ≡ map label first) → new ≡ set rs i y → seen y ≡ cond (test (seen (get_or rs i d))) free (seen (get_or rs i d)) → y.name ≡ (get_or rs i d).name → (map seen new ≡ upto test (map seen first) (i + 1)) × (map label new ≡ map label first)
one_more test first rs new i d y there long so is looks name =
    let h : i < length rs = omega arith in
    let k : i < length (map seen first) = omega (arith, length-map first seen) in (
      ap (map seen) is ∙ upto_more test (map seen first) seen rs i d y h k so.0 looks,
      ap (map label) is ∙ same_map label rs i d y h (ap name_of name) ∙ so.1,
    )

-- what the test says
looks_free : (b : Bool) (x y : slides.Slot) → true ≡ b → y ≡ free → y ≡ cond b free x
looks_free b x y t e = e ∙ sym (cond-true b free x (sym t))

looks_same : (b : Bool) (x : slides.Slot) → false ≡ b → x ≡ cond b free x
looks_same b x t = sym (cond-false b free x (sym t))

pub loop-slot-preserved : goal.loop-slot-preserved
loop-slot-preserved g c =
    let test = g.T.SlotTest.test c.args.test.now in
    let rs = c.loop-slot.records in
    let i = c.loop-slot.slot-index in
    let d = c.slot-item.result in
    let x = seen (get_or rs i d) in
    elim c.if-passes.branch [
      | then-passes w ↦
          one_more test c.args.records.now rs c.if-passes.records i d w.on.new.self c.loop-slot-test.true c.loop-slot.auto.records c.loop-slot.invariant w.records-is (looks_free (test x) x (seen w.on.new.self) w.if-passes.ensures w.on.ensures.seen) w.on.ensures.name
      | else-passes w ↦
          one_more test c.args.records.now rs c.if-passes.records i d (get_or rs i d) c.loop-slot-test.true c.loop-slot.auto.records c.loop-slot.invariant w.records-is (looks_same (test x) x w.if-passes.ensures) refl
    ]
