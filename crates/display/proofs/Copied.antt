-- What a panel means after a body was copied to the front of its frame memory.
use Rattle.std.proofs.Common.{◌≡◌, ℕ, ◌+◌, ◌≤◌, min, List, length, take, Some, Option, ap, ◌∙◌, arith}
use Rattle.packed.specs.Parts.{pasted}
use Rattle.packed.proofs.Overwritten.{length_pasted, read_pasted}
use Rattle.display.specs.Meaning.{shown}
use Rattle.display.specs.Frame.{panel}
use Rattle.display.specs.declared.cards.CardNumbers.{CardNumbers}

-- with the numbers of the show it means what an accepted show leaves
pub panel_shown :
    (xs ys b : List ℕ) (h : Option CardNumbers) (a t : ℕ) → ys ≡ pasted xs 0 b →
    length b ≤ length xs →
    panel ys (Some (record { accession = a; since = t; length = length b }))
    ≡ shown (panel xs h) a t b
panel_shown xs ys b h a t e fits =
    let within : 0 + length b ≤ length xs = omega arith in
    let long : length ys ≡ length xs = ap length e ∙ length_pasted xs 0 b within in
    let body : take (length b) ys ≡ b = ap (take (length b)) e ∙ read_pasted xs 0 b within in
    λ i. record {
      frame = min (long i) 65536;
      lag = 0;
      settle = λ u. u;
      card = Some (record { accession = a; since = t; body = body i });
    }
