-- A line that is written from its end.
use Rattle.std.proofs.Common.{◌≡◌, ℕ, List, [], ◌∷◌, ◌++◌, refl, ap, ◌∙◌, decimal}
use Rattle.std.proofs.lemmas.List.{append_assoc}
use Rattle.records.specs.Texts.{line_text}
use Rattle.records.specs.declared.facts.Line.{Line}

-- what the four fields come to, each written before the one behind it
pub line_spelled : (l : Line) (a b c d : List ℕ)
    → a ≡ decimal l.since ++ 10 ∷ []
    → b ≡ decimal l.accession ++ 32 ∷ a
    → c ≡ decimal l.refusal ++ 32 ∷ b
    → d ≡ decimal l.number ++ 32 ∷ c
    → d ≡ line_text l ++ 10 ∷ []
line_spelled l a b c d since accession refusal number =
    let third : b ≡ decimal l.accession ++ 32 ∷ (decimal l.since ++ 10 ∷ []) =
    accession ∙ ap (λ (xs : List ℕ). decimal l.accession ++ 32 ∷ xs) since in
    let second : c ≡ decimal l.refusal ++ 32 ∷ (decimal l.accession ++ 32 ∷ (decimal l.since ++ 10 ∷ [])) =
    refusal ∙ ap (λ (xs : List ℕ). decimal l.refusal ++ 32 ∷ xs) third in
    number ∙ ap (λ (xs : List ℕ). decimal l.number ++ 32 ∷ xs) second ∙ simp append_assoc refl
