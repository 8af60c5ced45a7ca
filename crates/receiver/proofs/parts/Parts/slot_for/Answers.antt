use Rattle.std.proofs.Common.{rules, ◌≡◌, ℕ, Some, None, Option, MatchOption, refl, ap, ◌∙◌}
use Rattle.receiver.specs.Views.{state_of}
use Rattle.rules.specs.Headers.{oldest_from, or_else}
use Rattle.rules.specs.Worlds.{State}
use Rattle.slots.specs.Searches.{first_slot, first_free}
use Rattle.slots.specs.Seen.{index_of}
use Rattle.slots.specs.Slides.{comes}
use Rattle.slots.specs.declared.indices.SlotIndex.{SlotIndex}
use Rattle.receiver.proofs.parts.Parts.slot_for.Goals as goal

-- what is found, else what a closure answers
else_said : (o r : Option SlotIndex) (P : Type 0) (q : Option ℕ) → MatchOption o P (λ x. r ≡ Some x) → (P → index_of r ≡ q) → index_of r ≡ or_else (index_of o) q
else_said None r P q m f = f m
else_said (Some x) r P q m f = ap index_of m

one_by_one : (a b c : Option ℕ) → or_else (or_else a b) c ≡ or_else a (or_else b c)
one_by_one None b c = refl
one_by_one (Some x) b c = refl

pub returns : goal.returns
returns c =
    let s : State = state_of c.args.self.now in
    let a = first_slot (comes c.args.transport) s.slots in
    let b = first_free s.slots s.recent in
    let o = oldest_from s 0 s.slots None in
    let first : index_of c.or_else.result ≡ or_else (index_of c.find.result) b = else_said c.find.result c.or_else.result _ b c.or_else.ensures (λ h. search rules) in
    let last : index_of c.or_else-2.result ≡ or_else (index_of c.or_else.result) o = else_said c.or_else.result c.or_else-2.result _ o c.or_else-2.ensures (λ h. search rules) in
    last
    ∙ ap (λ x. or_else x o) (first ∙ ap (λ x. or_else x b) c.find.ensures)
    ∙ one_by_one a b o
