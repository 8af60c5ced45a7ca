-- What a reader of data groups keeps to.
use Rattle.std.proofs.Common.{◌≡◌, ℕ, ◌+◌, ◌*◌, ◌^◌, ◌≤◌, Bool, true, false, cond, ◌&&◌, ◌⊎◌, inl, inr, eqb, List, [], ◌∷◌, length, get_or, is_some, Some, None, Ok, Err, Option, Result, ◌≢◌, sym, refl, ap, ◌∙◌, subst, arith}
use Rattle.refusal.specs.declared.Fault.{Fault}
use Rattle.refusal.specs.Numbers.{number_of}
use Rattle.refusal.specs.declared.causes.Cause.{Cause}
use Rattle.refusal.specs.declared.causes.Cause.TheVariants.{GroupMalformed, ChecksumDiffers, HeaderInParts}
use Rattle.std.specs.Option.{ok_or}
use Rattle.std.proofs.lemmas.Bool.{cond-true, cond-false, eqb-true, eqb-false, ne_eqb, cond_both}
use Rattle.datagroup.specs.Fields.{checksum_flag, type_in, FieldsRecord, fields_of}
use Rattle.datagroup.specs.Groups.{Group, header, other, group_fault, checked, as_header, as_segment, and_then, demanded, content, group_of}
use Rattle.datagroup.specs.Written.{Parts, Fits, bit, first_byte, field_bytes, with_sum, spelled, Spells, SumStands, SumDiffers, OtherType, Whole, Means, differs, passed_over, whole_header, in_parts, one_segment, malformed, GroupLaw}
use Rattle.datagroup.proofs.Chains.{refused_not, both}
use Rattle.datagroup.proofs.Checksums.{unflagged, Checked, cut, wrong, right, checks, checked_spelled, stands, refused_sum}
use Rattle.packed.specs.Bits.{field}
use Rattle.datagroup.proofs.Digits.{Bytes, before, bit_is, head_is}
use Rattle.datagroup.proofs.Found.{Found, found}
use Rattle.datagroup.proofs.Spelled.{fields_read, type_is, extension_is, checksum_is, segment_is, access_is}

-- what the parts say to a reader
abbrev said : Parts → FieldsRecord
said p = record { last = p.last; number = p.number; transport = p.transport; segment = p.payload }

-- what they ask, by their type
abbrev by_type : Parts → Result Group Fault
by_type p = cond (eqb p.type 3) (as_header (said p)) (cond (eqb p.type 4) (Ok (as_segment (said p))) (Ok other))

typed_3 : (p : Parts) → p.type ≡ 3 → by_type p ≡ as_header (said p)
typed_3 p t = ap (λ (n : ℕ). cond (eqb n 3) (as_header (said p)) (cond (eqb n 4) (Ok (as_segment (said p))) (Ok other))) t

typed_4 : (p : Parts) → p.type ≡ 4 → by_type p ≡ Ok (as_segment (said p))
typed_4 p t = ap (λ (n : ℕ). cond (eqb n 3) (as_header (said p)) (cond (eqb n 4) (Ok (as_segment (said p))) (Ok other))) t

-- what is written of parts asks what they ask
spelled_asks : (summed : Bool) (p : Parts) → Fits p → group_of (spelled summed p) ≡ by_type p
unfolding group_of
spelled_asks summed p f =
    let a : ℕ = first_byte summed p in
    let t = type_is p f summed in
    let d : demanded a (field_bytes p) ≡ Ok (said p) =
    ap (λ (o : Option FieldsRecord). ok_or o (group_fault GroupMalformed)) (fields_read p f a (extension_is p f summed) (segment_is p f summed) (access_is p f summed)) in
    ap (λ (r : Result (List ℕ) Fault). and_then r content) (checked_spelled summed a p.indices (field_bytes p) (checksum_is p f summed))
    ∙ (λ i. cond (eqb (t i) 3) (and_then (d i) as_header) (cond (eqb (t i) 4) (and_then (d i) (λ x. Ok (as_segment x))) (Ok other)))

spells_asks : (p : Parts) (xs : List ℕ) → Spells p xs → group_of xs ≡ by_type p
spells_asks p xs s = ap group_of s.bytes ∙ spelled_asks s.summed p s.fits

-- what can be read of some bytes
data Read (xs : List ℕ) : Result Group Fault → Type 0 where
  short : Read xs (Err (group_fault GroupMalformed))
  mismatch : SumDiffers xs → Read xs (Err (group_fault ChecksumDiffers))
  over : SumStands xs → OtherType xs → Read xs (Ok other)
  written : (p : Parts) → Spells p xs → SumStands xs → (p.type ≡ 3) ⊎ (p.type ≡ 4) → Read xs (by_type p)

unsummed_bytes : (summed : Bool) (ys : List ℕ) → Bytes (with_sum summed ys) → Bytes ys
unsummed_bytes false ys all = all
unsummed_bytes true ys all = before ys _ all

first_kept : (summed : Bool) (a : ℕ) (ys : List ℕ) → get_or (with_sum summed (a ∷ ys)) 0 0 ≡ a
first_kept false a ys = refl
first_kept true a ys = refl

two_kept : (summed : Bool) (a b : ℕ) (ys : List ℕ) → 2 ≤ length (with_sum summed (a ∷ b ∷ ys))
two_kept false a b ys = omega arith
two_kept true a b ys = omega arith

module _ (xs : List ℕ) (all : Bytes xs) (summed : Bool) (e : checksum_flag (get_or xs 0 0) ≡ summed) (s : SumStands xs) where
  -- two head bytes and fields that were found
  spells : (a b : ℕ) (zs : List ℕ) (f : FieldsRecord) → xs ≡ with_sum summed (a ∷ b ∷ zs) → (g : Found a b zs f) → Spells g.parts xs
  spells a b zs f i g =
      let p : Parts = g.parts in
      let small = (unsummed_bytes summed (a ∷ b ∷ zs) (subst Bytes i all)).0 in
      let first : get_or xs 0 0 ≡ a = ap (λ (ys : List ℕ). get_or ys 0 0) i ∙ first_kept summed a (b ∷ zs) in
      let ext : field 8 0 1 a ≡ bit (is_some p.extension) = sym (ap bit g.extension ∙ bit_is (field 8 0 1 a) (omega arith)) in
      let sum : field 8 1 1 a ≡ bit summed = sym (ap bit (sym e ∙ ap checksum_flag first) ∙ bit_is (field 8 1 1 a) (omega arith)) in
      let head : a ≡ first_byte summed p =
      head_is a (bit (is_some p.extension)) (bit summed) small ext sum g.segment g.access ∙ ap (λ (t : ℕ). bit (is_some p.extension) * 2 ^ 7 + bit summed * 2 ^ 6 + 2 ^ 5 + 2 ^ 4 + t) (sym g.type) in
      record { fits = g.fits; summed = summed; bytes = i ∙ ap (with_sum summed) (λ j. head j ∷ sym g.indices j ∷ g.bytes j) }

  read : (ys : List ℕ) → xs ≡ with_sum summed ys → Read xs (content ys)
  read [] i = short
  read (a ∷ []) i = short
  read (a ∷ b ∷ zs) i =
      let bytes = (unsummed_bytes summed (a ∷ b ∷ zs) (subst Bytes i all)).1.1 in
      cond_both (eqb (type_in a) 3) _ _ (Read xs) (λ t. as_3 (eqb-true _ _ t) bytes (fields_of a zs) refl)
      (λ n. cond_both (eqb (type_in a) 4) _ _ (Read xs) (λ t. as_4 (eqb-true _ _ t) bytes (fields_of a zs) refl)
      (λ m. over s (subst (λ (ys : List ℕ). 2 ≤ length ys) (sym i) (two_kept summed a b zs), λ t. eqb-false _ _ n (sym (ap type_in first) ∙ t), λ t. eqb-false _ _ m (sym (ap type_in first) ∙ t))))
    where
      first : get_or xs 0 0 ≡ a
      first = ap (λ (ys : List ℕ). get_or ys 0 0) i ∙ first_kept summed a (b ∷ zs)

      as_3 : type_in a ≡ 3 → Bytes zs → (o : Option FieldsRecord) → fields_of a zs ≡ o → Read xs (and_then (ok_or o (group_fault GroupMalformed)) as_header)
      as_3 t bytes None is = short
      as_3 t bytes (Some f) is =
          let g = found a b zs f bytes is in
          subst (Read xs) (typed_3 g.parts (g.type ∙ t) ∙ ap as_header (sym g.says)) (written g.parts (spells a b zs f i g) s (inl (g.type ∙ t)))

      as_4 : type_in a ≡ 4 → Bytes zs → (o : Option FieldsRecord) → fields_of a zs ≡ o → Read xs (and_then (ok_or o (group_fault GroupMalformed)) (λ f. Ok (as_segment f)))
      as_4 t bytes None is = short
      as_4 t bytes (Some f) is =
          let g = found a b zs f bytes is in
          subst (Read xs) (typed_4 g.parts (g.type ∙ t) ∙ ap (λ (h : FieldsRecord). Ok (as_segment h)) (sym g.says)) (written g.parts (spells a b zs f i g) s (inr (g.type ∙ t)))

reads : (xs : List ℕ) → Bytes xs → Read xs (group_of xs)
unfolding group_of
reads xs all = go (checked xs) (checks xs all)
  where
    go : (r : Result (List ℕ) Fault) → Checked xs r → Read xs (and_then r content)
    go _ cut = short
    go _ (wrong d) = mismatch d
    go _ (right summed ys e s i) = read xs all summed e s ys i

-- the number of what is refused
abbrev refusal_number : Result Group Fault → ℕ
refusal_number (Ok g) = 0
refusal_number (Err e) = number_of e.cause

unlike : (c d : Cause) → number_of c ≢ number_of d → ◌≢◌ {A = Result Group Fault} (Err (group_fault c)) (Err (group_fault d))
unlike c d n e = n (ap refusal_number e)

module _ (p : Parts) where
  header_read : p.type ≡ 3 → Whole p → by_type p ≡ Ok (header p.transport p.payload)
  header_read t w = typed_3 p t ∙ cond-true _ _ _ (λ i. w.0 i && eqb (w.1 i) 0)

  header_refused : p.type ≡ 3 → (Whole p → ⊥) → by_type p ≡ Err (group_fault HeaderInParts)
  header_refused t n =
      typed_3 p t
      ∙ cond_both (p.last && eqb p.number 0) (Ok (header p.transport p.payload)) (Err (group_fault HeaderInParts)) (λ r. r ≡ Err (group_fault HeaderInParts))
      (λ w. let k = both p.last (eqb p.number 0) w in absurd (n (k.0, eqb-true _ _ k.1)))
      (λ w. refl)

  -- what parts of type 3 or 4 mean
  means : (xs : List ℕ) → Spells p xs → SumStands xs → (p.type ≡ 3) ⊎ (p.type ≡ 4) → Means xs (by_type p)
  means xs h s (inl t) =
      subst (Means xs) (sym (typed_3 p t)) (cond_both (p.last && eqb p.number 0) (Ok (header p.transport p.payload)) (Err (group_fault HeaderInParts)) (Means xs)
      (λ w. let k = both p.last (eqb p.number 0) w in whole_header p h t (k.0, eqb-true _ _ k.1))
      (λ w. in_parts s p h t (λ k. unflagged _ w (λ i. k.0 i && eqb (k.1 i) 0))))
  means xs h s (inr t) = subst (Means xs) (sym (typed_4 p t)) (one_segment p h t)

  -- it is not that they are malformed
  not_malformed : (p.type ≡ 3) ⊎ (p.type ≡ 4) → by_type p ≡ Err (group_fault GroupMalformed) → ⊥
  not_malformed (inl t) e =
      cond_both (p.last && eqb p.number 0) (Ok (header p.transport p.payload)) (Err (group_fault HeaderInParts)) (λ r. r ≡ Err (group_fault GroupMalformed) → ⊥)
      (λ w is. refused_not _ _ (sym is)) (λ w is. unlike HeaderInParts GroupMalformed (λ z. omega arith) is) (sym (typed_3 p t) ∙ e)
  not_malformed (inr t) e = refused_not _ _ (sym e ∙ typed_4 p t)

-- a group of another type
passes : (xs : List ℕ) → SumStands xs → OtherType xs → group_of xs ≡ Ok other
unfolding group_of
passes [] s o = absurd (omega arith)
passes (a ∷ []) s o = absurd (omega arith)
passes (a ∷ b ∷ ys) s o =
    let c = stands a b ys s in
    ap (λ (r : Result (List ℕ) Fault). and_then r content) c.1 ∙ cond-false _ _ _ (ne_eqb _ _ o.1) ∙ cond-false _ _ _ (ne_eqb _ _ o.2)

mismatched : (xs : List ℕ) → SumDiffers xs → group_of xs ≡ Err (group_fault ChecksumDiffers)
unfolding group_of
mismatched xs d = ap (λ (r : Result (List ℕ) Fault). and_then r content) (refused_sum xs d)

module _ (xs : List ℕ) where
  -- what is read is meant
  meant : (r : Result Group Fault) → Read xs r → group_of xs ≡ r → Means xs r
  meant _ short e =
      malformed
      (λ d. unlike ChecksumDiffers GroupMalformed (λ z. omega arith) (sym (mismatched xs d) ∙ e))
      (λ s o. refused_not _ other (sym e ∙ passes xs s o))
      (λ p h. (λ t. not_malformed p (inl t) (sym (spells_asks p xs h) ∙ e), λ t. not_malformed p (inr t) (sym (spells_asks p xs h) ∙ e)))
  meant _ (mismatch d) e = differs d
  meant _ (over s o) e = passed_over s o
  meant _ (written p h s k) e = means p xs h s k

  none_else : (r : Result Group Fault) → Read xs r → (SumDiffers xs → ⊥) → (SumStands xs → OtherType xs → ⊥) → ((p : Parts) → Spells p xs → (p.type ≢ 3) × (p.type ≢ 4)) → r ≡ Err (group_fault GroupMalformed)
  none_else _ short d o n = refl
  none_else _ (mismatch e) d o n = absurd (d e)
  none_else _ (over s e) d o n = absurd (o s e)
  none_else _ (written p h s (inl t)) d o n = absurd ((n p h).0 t)
  none_else _ (written p h s (inr t)) d o n = absurd ((n p h).1 t)

  -- what is meant is read
  is_read : Bytes xs → (s : Result Group Fault) → Means xs s → group_of xs ≡ s
  is_read all _ (differs d) = mismatched xs d
  is_read all _ (passed_over s o) = passes xs s o
  is_read all _ (whole_header p h t w) = spells_asks p xs h ∙ header_read p t w
  is_read all _ (in_parts s p h t n) = spells_asks p xs h ∙ header_refused p t n
  is_read all _ (one_segment p h t) = spells_asks p xs h ∙ typed_4 p t
  is_read all _ (malformed d o n) = none_else _ (reads xs all) d o n

  group_law : Bytes xs → GroupLaw xs (group_of xs)
  unfolding GroupLaw
  group_law all s = (λ e. subst (Means xs) e (meant _ (reads xs all) refl), is_read all s)

-- an answer that is what the definition gives keeps to the law
pub keeps_law : (xs : List ℕ) (r : Result Group Fault) → Bytes xs → r ≡ group_of xs → GroupLaw xs r
keeps_law xs r bytes e = subst (GroupLaw xs) (sym e) (group_law xs bytes)
