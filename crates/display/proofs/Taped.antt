-- An entry written on a tape is read back from its bytes.
use Rattle.std.proofs.Common.{◌≡◌, ℕ, ◌+◌, ◌-◌, ◌*◌, ◌%◌, ◌^◌, ◌<◌, ◌≤◌, min, List, ◌++◌, length, take, drop, Some, Option, sym, refl, ap, ◌∙◌, mod-eq_of_lt, div-one, arith}
use lib.Pow.{high, low}
use Rattle.packed.specs.Bits.{whole, field, bytes_of}
use Rattle.packed.specs.Parts.{pasted}
use Rattle.packed.proofs.Written.{whole_bytes}
use Rattle.packed.proofs.Overwritten.{length_pasted, from_pasted, pasted_both}
use Rattle.std.proofs.lemmas.List.{length-append, take_at, drop_at, drop-drop, append_assoc}
use Rattle.display.specs.Meaning.{shown}
use Rattle.display.specs.Tape.{accession_at, since_at, length_at, card_at, entry_bytes, film}

-- head and body written one behind the other
pub written_entry : (tape : List ℕ) (at a s : ℕ) (b f g : List ℕ) → at + 12 ≤ length tape → f ≡ bytes_of 4 a → g ≡ bytes_of 8 (s * 2 ^ 20 + length b) → pasted (pasted (pasted tape at f) (at + 4) g) (at + 12) b ≡ pasted tape at (entry_bytes a s b)
written_entry tape at a s b f g fits e d =
    let four : length f ≡ 4 = ap length e in
    let eight : length g ≡ 8 = ap length d in
    let p : at + 4 ≡ at + length f = omega arith in
    let q : at + 12 ≡ at + 4 + length g = omega arith in
    ap (λ (i : ℕ). pasted (pasted (pasted tape at f) (at + 4) g) i b) q
    ∙ pasted_both (pasted tape at f) (at + 4) g b (omega (arith, length_pasted tape at f (omega arith)))
    ∙ ap (λ (i : ℕ). pasted (pasted tape at f) i (g ++ b)) p
    ∙ pasted_both tape at f (g ++ b) (omega arith)
    ∙ ap (λ (z : List ℕ). pasted tape at (z ++ (g ++ b))) e
    ∙ ap (λ (z : List ℕ). pasted tape at (bytes_of 4 a ++ (z ++ b))) d

module _ (tape : List ℕ) (at a s : ℕ) (b : List ℕ) (fits : at + 12 + length b ≤ length tape) (short : a < 2 ^ 32) (early : s < 2 ^ 44) (small : length b ≤ 65536) where
  abbrev word : ℕ
  word = s * 2 ^ 20 + length b

  abbrev after : List ℕ
  after = pasted tape at (entry_bytes a s b)

  entry_long : length (entry_bytes a s b) ≡ 12 + length b
  entry_long = length-append (bytes_of 4 a) (bytes_of 8 word ++ b) ∙ omega (arith, length-append (bytes_of 8 word) b)

  abbrev rest : List ℕ
  rest = drop (at + length (entry_bytes a s b)) tape

  whole_entry : drop at after ≡ bytes_of 4 a ++ (bytes_of 8 word ++ (b ++ rest))
  whole_entry = from_pasted tape at (entry_bytes a s b) (omega (arith, entry_long)) ∙ append_assoc (bytes_of 4 a) (bytes_of 8 word ++ b) rest ∙ ap (λ (z : List ℕ). bytes_of 4 a ++ z) (append_assoc (bytes_of 8 word) b rest)

  behind_accession : drop (at + 4) after ≡ bytes_of 8 word ++ (b ++ rest)
  behind_accession = sym (drop-drop 4 at after) ∙ ap (drop 4) whole_entry ∙ drop_at (bytes_of 4 a) (bytes_of 8 word ++ (b ++ rest)) 4 refl

  behind_head : drop (at + 12) after ≡ b ++ rest
  behind_head =
      let e : at + 12 ≡ at + 4 + 8 = omega arith in
      ap (λ (i : ℕ). drop i after) e ∙ sym (drop-drop 8 (at + 4) after) ∙ ap (drop 8) behind_accession ∙ drop_at (bytes_of 8 word) (b ++ rest) 8 refl

  word_fits : word < 2 ^ (8 * 8)
  word_fits = omega arith

  first_word : whole (take 4 (drop at after)) ≡ a
  first_word = ap (λ (z : List ℕ). whole (take 4 z)) whole_entry ∙ ap whole (take_at (bytes_of 4 a) (bytes_of 8 word ++ (b ++ rest)) 4 refl) ∙ whole_bytes 4 a short

  second_word : whole (take 8 (drop (at + 4) after)) ≡ word
  second_word = ap (λ (z : List ℕ). whole (take 8 z)) behind_accession ∙ ap whole (take_at (bytes_of 8 word) (b ++ rest) 8 refl) ∙ whole_bytes 8 word word_fits

  accession_back : accession_at after at ≡ a
  accession_back = ap (field 32 0 32) first_word ∙ ap (λ (i : ℕ). i % 2 ^ 32) (div-one a) ∙ mod-eq_of_lt short

  since_back : since_at after at ≡ s
  since_back =
      let n : length b < 2 ^ 20 = omega arith in
      ap (field 64 0 44) second_word ∙ ap (λ (i : ℕ). i % 2 ^ 44) (high s 20 n) ∙ mod-eq_of_lt early

  pub length_back : length_at after at ≡ length b
  length_back =
      let n : length b < 2 ^ 20 = omega arith in
      ap (field 64 44 20) second_word ∙ ap (λ (i : ℕ). i % 2 ^ 20) (div-one word) ∙ low s 20 n

  body_back : take (length_at after at) (drop (at + 12) after) ≡ b
  body_back = ap (λ (n : ℕ). take n (drop (at + 12) after)) length_back ∙ ap (take (length b)) behind_head ∙ take_at b rest (length b) refl

  pub card_back : card_at after at ≡ record { accession = a; since = s; body = b }
  card_back = λ i. record { accession = accession_back i; since = since_back i; body = body_back i }

  after_long : length after ≡ length tape
  after_long = length_pasted tape at (entry_bytes a s b) (omega (arith, entry_long))

  pub film_shown : (ys : List ℕ) (last : Option ℕ) → ys ≡ after → film ys (Some at) ≡ shown (film tape last) a s b
  film_shown ys last e =
      ap (λ (z : List ℕ). film z (Some at)) e ∙ (λ i. record { frame = min (after_long i - 12) 65536; lag = 0; settle = λ t. t; card = Some (card_back i) })
