-- What is read of a data group was written so.
use Rattle.std.proofs.Common.{◌≡◌, ℕ, zero, suc, ◌+◌, ◌*◌, ◌/◌, ◌^◌, ◌<◌, ◌≤◌, Bool, true, false, ◌&&◌, eqb, leb, List, [], ◌∷◌, ◌++◌, length, is_some, take, drop, None, Some, Option, sym, refl, ap, ◌∙◌, subst, arith}
use Rattle.packed.specs.Bits.{field, whole, bytes_of}
use Rattle.std.proofs.lemmas.Bool.{eqb-true, leb-true}
use Rattle.std.proofs.lemmas.List.{take-append-drop, length-take-le}
use Rattle.datagroup.specs.Fields.{extension_flag, segment_flag, access_flag, type_in, FieldsRecord, behind_extension, segment_field, transport_in, access_field, sized, fields_of}
use Rattle.datagroup.specs.Written.{Parts, Fits, bit, extension_bytes, field_bytes}
use Rattle.datagroup.proofs.Chains.{none_not, both, passed, then_some}
use Rattle.datagroup.proofs.Digits.{Bytes, behind, bit_is, two_bytes}

record Extended (flag : Bool) (xs ys : List ℕ) : Type 0 where
  extension : Option (ℕ × ℕ)
  flagged : is_some extension ≡ flag
  bytes : xs ≡ extension_bytes extension ++ ys

extended : (flag : Bool) (xs ys : List ℕ) → behind_extension flag xs ≡ Some ys → Extended flag xs ys
extended false xs ys e = record { extension = None; flagged = refl; bytes = cc }
extended true [] ys e = absurd (none_not ys e)
extended true (a ∷ []) ys e = absurd (none_not ys e)
extended true (a ∷ b ∷ xs) ys e =
    let i : xs ≡ ys = cc in
    record { extension = Some (a, b); flagged = refl; bytes = ap (λ (zs : List ℕ). a ∷ b ∷ zs) i }

record Numbered (flag : Bool) (xs : List ℕ) (s : Bool × ℕ × List ℕ) : Type 0 where
  flagged : flag ≡ true
  small : s.1 < 2 ^ 15
  bytes : xs ≡ bytes_of 2 (bit s.0 * 2 ^ 15 + s.1) ++ s.2

numbered : (flag : Bool) (xs : List ℕ) (s : Bool × ℕ × List ℕ) → Bytes xs → segment_field flag xs ≡ Some s → Numbered flag xs s
numbered false xs s all e = absurd (none_not s e)
numbered true [] s all e = absurd (none_not s e)
numbered true (c ∷ []) s all e = absurd (none_not s e)
numbered true (c ∷ d ∷ xs) s all e =
    let w : ℕ = whole (c ∷ d ∷ []) in
    let cs = all.0 in
    let ds = all.1.0 in
    let i : (eqb (field 16 0 1 (whole (c ∷ d ∷ []))) 1, field 16 1 15 (whole (c ∷ d ∷ [])), xs) ≡ s = cc in
    let flag_is : bit (eqb (field 16 0 1 (whole (c ∷ d ∷ []))) 1) ≡ field 16 0 1 (whole (c ∷ d ∷ [])) = bit_is _ (omega arith) in
    let word : whole (c ∷ d ∷ []) ≡ bit (eqb (field 16 0 1 (whole (c ∷ d ∷ []))) 1) * 2 ^ 15 + field 16 1 15 (whole (c ∷ d ∷ [])) = omega (arith, flag_is) in
    subst (Numbered true (c ∷ d ∷ xs)) i (record {
      flagged = refl;
      small = omega arith;
      bytes = ap (λ (zs : List ℕ). zs ++ xs) (sym (two_bytes c d cs ds) ∙ ap (bytes_of 2) word);
    })

record Addressed (n : ℕ) (xs : List ℕ) (t : ℕ × List ℕ) : Type 0 where
  address : List ℕ
  long : n ≡ 2 + length address
  small : t.0 < 2 ^ 16
  bytes : xs ≡ (bytes_of 2 t.0 ++ address) ++ t.1

addressed : (n : ℕ) (xs : List ℕ) (t : ℕ × List ℕ) → Bytes xs → n ≤ length xs → transport_in (take n xs) (drop n xs) ≡ Some t → Addressed n xs t
addressed zero xs t all h e = absurd (none_not t e)
addressed (suc n) [] t all h e = absurd (none_not t e)
addressed (suc zero) (b ∷ xs) t all h e = absurd (none_not t e)
addressed (suc (suc n)) (b ∷ []) t all h e = absurd (none_not t e)
addressed (suc (suc n)) (b ∷ c ∷ xs) t all h e =
    let bs = all.0 in
    let cs = all.1.0 in
    let i : (whole (b ∷ c ∷ []), drop n xs) ≡ t = cc in
    subst (Addressed (suc (suc n)) (b ∷ c ∷ xs)) i (record {
      address = take n xs;
      long = omega (arith, length-take-le n xs (omega arith));
      small = omega arith;
      bytes = ap (λ (zs : List ℕ). b ∷ c ∷ zs) (sym (take-append-drop n xs)) ∙ ap (λ (zs : List ℕ). (zs ++ take n xs) ++ drop n xs) (sym (two_bytes b c bs cs));
    })

record Accessed (flag : Bool) (xs : List ℕ) (t : ℕ × List ℕ) : Type 0 where
  unused : ℕ
  address : List ℕ
  flagged : flag ≡ true
  few : unused < 2 ^ 3
  short : 2 + length address < 2 ^ 4
  small : t.0 < 2 ^ 16
  bytes : xs ≡ ((unused * 2 ^ 5 + 2 ^ 4 + (2 + length address)) ∷ (bytes_of 2 t.0 ++ address)) ++ t.1

accessed : (flag : Bool) (xs : List ℕ) (t : ℕ × List ℕ) → Bytes xs → access_field flag xs ≡ Some t → Accessed flag xs t
accessed flag [] t all e = absurd (none_not t e)
accessed flag (u ∷ xs) t all e =
    let us = all.0 in
    let n : ℕ = field 8 4 4 u in
    let p = passed (flag && eqb (field 8 3 1 u) 1 && leb n (length xs)) (transport_in (take n xs) (drop n xs)) t e in
    let f = both (flag && eqb (field 8 3 1 u) 1) (leb n (length xs)) p.0 in
    let g = both flag (eqb (field 8 3 1 u) 1) f.0 in
    let one : field 8 3 1 u ≡ 1 = eqb-true _ _ g.1 in
    let a = addressed n xs t all.1 (leb-true _ _ f.1) p.1 in
    let head : u ≡ u / 2 ^ 5 * 2 ^ 5 + 2 ^ 4 + (2 + length a.address) = omega (arith, a.long) in
    record {
      unused = u / 2 ^ 5;
      address = a.address;
      flagged = g.0;
      few = omega arith;
      short = omega (arith, a.long);
      small = a.small;
      bytes = (λ i. head i ∷ a.bytes i);
    }

record Sized (xs zs : List ℕ) : Type 0 where
  repetition : ℕ
  few : repetition < 2 ^ 3
  short : length zs < 2 ^ 13
  bytes : xs ≡ bytes_of 2 (repetition * 2 ^ 13 + length zs) ++ zs

was_sized : (xs zs : List ℕ) → Bytes xs → sized xs ≡ Some zs → Sized xs zs
was_sized [] zs all e = absurd (none_not zs e)
was_sized (r ∷ []) zs all e = absurd (none_not zs e)
was_sized (r ∷ s ∷ xs) zs all e =
    let rs = all.0 in
    let ss = all.1.0 in
    let p = passed (eqb (field 16 3 13 (whole (r ∷ s ∷ []))) (length xs)) (Some xs) zs e in
    let i : xs ≡ zs = cc in
    let size : field 16 3 13 (whole (r ∷ s ∷ [])) ≡ length xs = eqb-true _ _ p.0 in
    let word : whole (r ∷ s ∷ []) ≡ whole (r ∷ s ∷ []) / 2 ^ 13 * 2 ^ 13 + length xs = omega arith in
    subst (Sized (r ∷ s ∷ xs)) i (record {
      repetition = whole (r ∷ s ∷ []) / 2 ^ 13;
      few = omega arith;
      short = omega arith;
      bytes = ap (λ (ys : List ℕ). ys ++ xs) (sym (two_bytes r s rs ss) ∙ ap (bytes_of 2) word);
    })

-- four parts, each behind the one before
four : (e s t z xs ys zs ws : List ℕ) → xs ≡ e ++ ys → ys ≡ s ++ zs → zs ≡ t ++ ws → ws ≡ z → xs ≡ e ++ (s ++ (t ++ z))
four e s t z xs ys zs ws p q r w = p ∙ ap (λ (us : List ℕ). e ++ us) (q ∙ ap (λ (us : List ℕ). s ++ us) (r ∙ ap (λ (us : List ℕ). t ++ us) w))

-- fields that were found behind a first byte, and an index, are the fields of such parts
pub record Found (a i : ℕ) (xs : List ℕ) (f : FieldsRecord) : Type 0 where
  pub parts : Parts
  pub fits : Fits parts
  pub type : parts.type ≡ type_in a
  pub indices : parts.indices ≡ i
  pub extension : is_some parts.extension ≡ extension_flag a
  pub segment : segment_flag a ≡ true
  pub access : access_flag a ≡ true
  pub bytes : xs ≡ field_bytes parts
  pub says : f ≡ record { last = parts.last; number = parts.number; transport = parts.transport; segment = parts.payload }

pub found : (a i : ℕ) (xs : List ℕ) (f : FieldsRecord) → Bytes xs → fields_of a xs ≡ Some f → Found a i xs f
found a i xs f all e =
    let ext = then_some (behind_extension (extension_flag a) xs) _ f e in
    let e1 = extended (extension_flag a) xs ext.0 ext.1 in
    let first : List ℕ = extension_bytes e1.extension in
    let all1 = behind first ext.0 xs all e1.bytes in
    let seg = then_some (segment_field (segment_flag a) ext.0) _ f ext.2 in
    let e2 = numbered (segment_flag a) ext.0 seg.0 all1 seg.1 in
    let second : List ℕ = bytes_of 2 (bit seg.0.0 * 2 ^ 15 + seg.0.1) in
    let all2 = behind second seg.0.2 ext.0 all1 e2.bytes in
    let acc = then_some (access_field (access_flag a) seg.0.2) _ f seg.2 in
    let e3 = accessed (access_flag a) seg.0.2 acc.0 all2 acc.1 in
    let third : List ℕ = (e3.unused * 2 ^ 5 + 2 ^ 4 + (2 + length e3.address)) ∷ (bytes_of 2 acc.0.0 ++ e3.address) in
    let all3 = behind third acc.0.1 seg.0.2 all2 e3.bytes in
    let siz = then_some (sized acc.0.1) _ f acc.2 in
    let e4 = was_sized acc.0.1 siz.0 all3 siz.1 in
    let fourth : List ℕ = bytes_of 2 (e4.repetition * 2 ^ 13 + length siz.0) ++ siz.0 in
    let says : ◌≡◌ {A = FieldsRecord} (record { last = seg.0.0; number = seg.0.1; transport = acc.0.0; segment = siz.0 }) f = cc in
    record {
      parts = record { type = type_in a; indices = i; extension = e1.extension; last = seg.0.0; number = seg.0.1; unused = e3.unused; transport = acc.0.0; address = e3.address; repetition = e4.repetition; payload = siz.0 };
      fits = record { type = omega arith; number = e2.small; unused = e3.few; transport = e3.small; address = e3.short; repetition = e4.few; payload = e4.short };
      type = refl;
      indices = refl;
      extension = e1.flagged;
      segment = e2.flagged;
      access = e3.flagged;
      bytes = four first second third fourth xs ext.0 seg.0.2 acc.0.1 e1.bytes e2.bytes e3.bytes e4.bytes;
      says = sym says;
    }
