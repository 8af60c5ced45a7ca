-- Parts of memory, and what a write leaves of them.
use Rattle.std.proofs.Common.{◌≡◌, ℕ, ◌+◌, ◌≤◌, List, ◌++◌, length, take, drop, sym, ap, ◌∙◌, arith, take-add}
use Rattle.packed.proofs.Overwritten.{read_pasted, below_pasted, above_pasted}
use Rattle.packed.specs.Parts.{pasted}
use Rattle.std.proofs.lemmas.List.{drop-take, drop-drop, length-take, length-drop}
use Rattle.slots.specs.Pieces.{part}

pub part_add : (a i j : ℕ) (m : List ℕ) → part a (i + j) m ≡ part a i m ++ part (a + i) j m
part_add a i j m = take-add i j (drop a m) ∙ ap (λ (ys : List ℕ). take i (drop a m) ++ take j ys) (drop-drop i a m)

pub length_part : (a k : ℕ) (m : List ℕ) → a + k ≤ length m → length (part a k m) ≡ k
length_part a k m h = simp (length-take, length-drop) (omega arith)

module _ (m : List ℕ) (a : ℕ) (bs : List ℕ) (fits : a + length bs ≤ length m) where
  pub part_below : (b k : ℕ) → b + k ≤ a → part b k (pasted m a bs) ≡ part b k m
  part_below b k h =
      sym (drop-take b k (pasted m a bs)) ∙ (ap (drop b) (below_pasted m a bs fits (b + k) h) ∙ drop-take b k m)

  pub part_above : (b k : ℕ) → a + length bs ≤ b → part b k (pasted m a bs) ≡ part b k m
  part_above b k h = ap (take k) (above_pasted m a bs fits b h)

  pub part_same : part a (length bs) (pasted m a bs) ≡ bs
  part_same = read_pasted m a bs fits
