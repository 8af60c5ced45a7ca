use Rattle.std.proofs.Common.{◌≡◌, ℕ, ◌+◌, ◌/◌, ◌%◌, List, [], ◌∷◌, sym, ap, ◌∙◌, arith}
use Rattle.packed.specs.Bits.{bytes_of}
use Rattle.packed.specs.Parts.{pasted}
use Rattle.packed.proofs.Written.{last_byte}
use Rattle.display.proofs.Taped.{written_entry}
use Rattle.display.proofs.films.write_entry.Goals as goal

-- the bytes of a number are written without a last division
four : (n : ℕ) → (n / 16777216 % 256) ∷ (n / 65536 % 256) ∷ (n / 256 % 256) ∷ (n % 256) ∷ [] ≡ bytes_of 4 n
four n = ap (λ (b : ℕ). (n / 16777216 % 256) ∷ (n / 65536 % 256) ∷ (n / 256 % 256) ∷ b ∷ []) (sym (last_byte n))

eight : (n : ℕ) → (n / 72057594037927936 % 256) ∷ (n / 281474976710656 % 256) ∷ (n / 1099511627776 % 256) ∷ (n / 4294967296 % 256) ∷ (n / 16777216 % 256) ∷ (n / 65536 % 256) ∷ (n / 256 % 256) ∷ (n % 256) ∷ [] ≡ bytes_of 8 n
eight n =
    ap (λ (b : ℕ). (n / 72057594037927936 % 256) ∷ (n / 281474976710656 % 256) ∷ (n / 1099511627776 % 256) ∷ (n / 4294967296 % 256) ∷ (n / 16777216 % 256) ∷ (n / 65536 % 256) ∷ (n / 256 % 256) ∷ b ∷ []) (sym (last_byte n))

pub returns : goal.returns
returns c =
    let tape = c.args.tape.now.items in
    let at = c.args.at in
    let b = c.args.body.now in
    let f = c.to_be_bytes-first.result in
    let g = c.to_be_bytes-second.result in
    record {
      items =
          c.copy_in-3.ensures.items
          ∙ ap (λ (z : List ℕ). pasted z (at + 12) b) (c.copy_in-2.ensures.items ∙ ap (λ (z : List ℕ). pasted z (at + 4) g) c.copy_in.ensures.items)
          ∙ written_entry tape at c.args.accession c.args.since b f g (omega (arith, c.args.tape.now.ok.0)) (c.to_be_bytes-first.ensures ∙ four _) (c.to_be_bytes-second.ensures ∙ eight _);
      len = c.copy_in-3.ensures.len ∙ c.copy_in-2.ensures.len ∙ c.copy_in.ensures.len;
    }
