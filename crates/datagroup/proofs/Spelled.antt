-- What is written of a data group is read again.
use Rattle.std.proofs.Common.{◌≡◌, ℕ, ◌+◌, ◌*◌, ◌^◌, Bool, true, false, ◌&&◌, eqb, leb, List, ◌++◌, length, is_some, take, drop, None, Some, Option, refl, ap, ◌∙◌, arith}
use Rattle.packed.specs.Bits.{field, whole, bytes_of}
use Rattle.packed.proofs.Written.{whole_bytes}
use Rattle.std.proofs.lemmas.Bool.{cond-true, eq-eqb, le-leb}
use Rattle.std.proofs.lemmas.List.{take_at, drop_at, length-append}
use Rattle.datagroup.specs.Fields.{extension_flag, checksum_flag, segment_flag, access_flag, type_in, behind_extension, segment_field, transport_in, access_field, sized, fields_of}
use Rattle.datagroup.specs.Written.{Parts, Fits, bit, first_byte, extension_bytes, segment_bytes, access_bytes, payload_bytes, field_bytes}
use Rattle.datagroup.proofs.Chains.{then_go}
use Rattle.datagroup.proofs.Digits.{bit_small}

-- what stands behind the extension
extension_read : (o : Option (ℕ × ℕ)) (ys : List ℕ) → behind_extension (is_some o) (extension_bytes o ++ ys) ≡ Some ys
extension_read None ys = refl
extension_read (Some e) ys = refl

flag_read : (b : Bool) → eqb (bit b) 1 ≡ b
flag_read true = refl
flag_read false = refl

module _ (p : Parts) (f : Fits p) where
  number_read : (ys : List ℕ) → segment_field true (segment_bytes p ++ ys) ≡ Some (p.last, p.number, ys)
  number_read ys =
      let n = f.number in
      let b = bit_small p.last in
      let w : whole (bytes_of 2 (bit p.last * 2 ^ 15 + p.number)) ≡ bit p.last * 2 ^ 15 + p.number = whole_bytes 2 (bit p.last * 2 ^ 15 + p.number) (omega arith) in
      let high : field 16 0 1 (whole (bytes_of 2 (bit p.last * 2 ^ 15 + p.number))) ≡ bit p.last = omega (arith, w) in
      let low : field 16 1 15 (whole (bytes_of 2 (bit p.last * 2 ^ 15 + p.number))) ≡ p.number = omega (arith, w) in
      let last : eqb (field 16 0 1 (whole (bytes_of 2 (bit p.last * 2 ^ 15 + p.number)))) 1 ≡ p.last = ap (λ (q : ℕ). eqb q 1) high ∙ flag_read p.last in
      (λ i. Some (last i, low i, ys))

  access_read : (ys : List ℕ) → access_field true (access_bytes p ++ ys) ≡ Some (p.transport, ys)
  access_read ys =
      let u = f.unused in
      let a = f.address in
      let n : ℕ = field 8 4 4 (p.unused * 2 ^ 5 + 2 ^ 4 + (2 + length p.address)) in
      let front : List ℕ = bytes_of 2 p.transport ++ p.address in
      let one : eqb (field 8 3 1 (p.unused * 2 ^ 5 + 2 ^ 4 + (2 + length p.address))) 1 ≡ true = eq-eqb _ _ (omega arith) in
      let long : length (bytes_of 2 p.transport ++ p.address) ≡ field 8 4 4 (p.unused * 2 ^ 5 + 2 ^ 4 + (2 + length p.address)) = omega arith in
      let room : leb n (length (front ++ ys)) ≡ true = le-leb _ _ (omega (arith, length-append front ys)) in
      let cut : take n (front ++ ys) ≡ front = take_at front ys n long in
      let left : drop n (front ++ ys) ≡ ys = drop_at front ys n long in
      cond-true _ _ _ (λ i. one i && room i)
      ∙ (λ i. transport_in (cut i) (left i))
      ∙ ap (λ (w : ℕ). Some (w, ys)) (whole_bytes 2 p.transport f.transport)

  size_read : sized (payload_bytes p) ≡ Some p.payload
  size_read =
      let r = f.repetition in
      let s = f.payload in
      let w : whole (bytes_of 2 (p.repetition * 2 ^ 13 + length p.payload)) ≡ p.repetition * 2 ^ 13 + length p.payload = whole_bytes 2 (p.repetition * 2 ^ 13 + length p.payload) (omega arith) in
      let same : field 16 3 13 (whole (bytes_of 2 (p.repetition * 2 ^ 13 + length p.payload))) ≡ length p.payload = omega (arith, w) in
      cond-true _ _ _ (eq-eqb _ _ same)

  -- behind a first byte with the flags of these parts
  pub fields_read : (a : ℕ) → extension_flag a ≡ is_some p.extension → segment_flag a ≡ true → access_flag a ≡ true → fields_of a (field_bytes p) ≡ Some (record { last = p.last; number = p.number; transport = p.transport; segment = p.payload })
  fields_read a e s t =
      let zs : List ℕ = payload_bytes p in
      let ys : List ℕ = access_bytes p ++ zs in
      let xs : List ℕ = segment_bytes p ++ ys in
      then_go _ _ xs _ (ap (λ (b : Bool). behind_extension b (field_bytes p)) e ∙ extension_read p.extension xs)
      (then_go _ _ (p.last, p.number, ys) _ (ap (λ (b : Bool). segment_field b xs) s ∙ number_read ys)
      (then_go _ _ (p.transport, zs) _ (ap (λ (b : Bool). access_field b ys) t ∙ access_read zs)
      (then_go _ _ p.payload _ size_read refl)))

  -- the first byte
  module _ (summed : Bool) where
    pub type_is : type_in (first_byte summed p) ≡ p.type
    type_is = let t = f.type in let e = bit_small (is_some p.extension) in let c = bit_small summed in omega arith

    pub extension_is : extension_flag (first_byte summed p) ≡ is_some p.extension
    extension_is =
        let t = f.type in let e = bit_small (is_some p.extension) in let c = bit_small summed in
        let q : field 8 0 1 (first_byte summed p) ≡ bit (is_some p.extension) = omega arith in
        ap (λ (n : ℕ). eqb n 1) q ∙ flag_read (is_some p.extension)

    pub checksum_is : checksum_flag (first_byte summed p) ≡ summed
    checksum_is =
        let t = f.type in let e = bit_small (is_some p.extension) in let c = bit_small summed in
        let q : field 8 1 1 (first_byte summed p) ≡ bit summed = omega arith in
        ap (λ (n : ℕ). eqb n 1) q ∙ flag_read summed

    pub segment_is : segment_flag (first_byte summed p) ≡ true
    segment_is =
        let t = f.type in let e = bit_small (is_some p.extension) in let c = bit_small summed in
        let q : field 8 2 1 (first_byte summed p) ≡ 1 = omega arith in
        eq-eqb _ _ q

    pub access_is : access_flag (first_byte summed p) ≡ true
    access_is =
        let t = f.type in let e = bit_small (is_some p.extension) in let c = bit_small summed in
        let q : field 8 3 1 (first_byte summed p) ≡ 1 = omega arith in
        eq-eqb _ _ q
