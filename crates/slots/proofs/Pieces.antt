-- Segments in any order: where each lies, and the body that they make.
use Rattle.std.proofs.Common.{◌≡◌, ℕ, zero, suc, ◌+◌, ◌-◌, ◌*◌, ◌/◌, ◌%◌, ◌^◌, ◌<◌, ◌≤◌, Bool, true, false, cond, ◌||◌, eqb, ltb, leb, ◌⊎◌, List, [], ◌++◌, length, Some, None, Option, sym, refl, ap, ◌∙◌, ap₂, inl, inr, add-zero, add-suc, mul-le-mul_right, suc-mul, add-mul, zero-mul, arith}
use native.Mathlib.Nat.{div-add-mod}
use lib.Bits.{bit_or}
use Rattle.packed.specs.Parts.{pasted}
use Rattle.std.proofs.lemmas.List.{append-nil}
use Rattle.std.proofs.lemmas.Bool.{and_parts, or_parts, or_left, or_right, cases_eq, cases_lt, cases_Bool, eq-eqb, ne_eqb, eqb-true, ltb-true, leb-true, both_ways}
use Rattle.slots.specs.Pieces.{part, gather}
use Rattle.slots.specs.Segments.{has, covers, complete_with, last_with, fits, piece_with, offset, agrees, unfixed}
use Rattle.slots.proofs.Memory.{part_add, part_below, part_above, part_same}
use Rattle.slots.proofs.Numbers.{has_marked, covers_has}

-- segment i of a body of B bytes at base, in pieces of p: it lies at i × p, and is a whole piece or reaches the end
pub record Piece (base p B : ℕ) (m : List ℕ) (last : Option ℕ) (i : ℕ) (bs : List ℕ) : Type 0 where
  pub lies : part (base + i * p) (length bs) m ≡ bs
  pub some : 0 < length bs
  pub within : length bs ≤ p
  pub inside : i * p + length bs ≤ B
  pub small : i < 64
  pub whole : (last ≡ Some i → ⊥) → (length bs ≡ p) × (i * p + p < B)
  pub ending : last ≡ Some i → i * p + length bs ≡ B

-- the segments taken so far, by their numbers
pub record Pieces (base p B : ℕ) (m : List ℕ) (last : Option ℕ) (taken : ℕ) (ps : ℕ → List ℕ) : Type 0 where
  pub absent : (i : ℕ) → has i taken ≡ false → ps i ≡ []
  pub each : (i : ℕ) → has i taken ≡ true → Piece base p B m last i (ps i)
  pub known : (i : ℕ) → last ≡ Some i → has i taken ≡ true

pub next_piece : (i n p : ℕ) → i < n → i * p + p ≤ n * p
next_piece i n p h = rw suc-mul at (mul-le-mul_right p h)

-- with the last and all before it, the pieces in order are the body
module _ (base p B N : ℕ) (m : List ℕ) (taken : ℕ) (ps : ℕ → List ℕ) (h : Pieces base p B m (Some N) taken ps) (c : covers N taken ≡ true) where
  end : Piece base p B m (Some N) N (ps N)
  end = h.each N (h.known N refl)

  front : (i : ℕ) → i ≤ N → gather ps i ≡ part base (i * p) m
  front zero k = rw zero-mul
  front (suc i) k =
      let x : Piece base p B m (Some N) i (ps i) = h.each i (covers_has N taken c i k) in
      let w = x.whole (λ e. let z : N ≡ i = cc in omega arith) in
      ap₂ ◌++◌ (front i (omega arith)) (sym (rw w.0 at x.lies))
      ∙ (sym (part_add base (i * p) p m) ∙ ap (λ (k : ℕ). part base k m) (sym (suc-mul i p)))

  beyond : (i : ℕ) → N < i → ps i ≡ []
  beyond i k = go (cases_Bool (has i taken))
    where
      go : (has i taken ≡ true) ⊎ (has i taken ≡ false) → ps i ≡ []
      go (inl t) =
          let w = (h.each i t).whole (λ e. let z : N ≡ i = cc in omega arith) in
          absurd (omega (arith, w.1, end.ending refl, end.within, next_piece N i p k))
      go (inr t) = h.absent i t

  rest : (j : ℕ) → gather ps (suc N + j) ≡ gather ps (suc N)
  rest zero = rw (add-zero (suc N))
  rest (suc j) =
      rw (add-suc (suc N) j) (rw (beyond (suc N + j) (omega arith)) (append-nil (gather ps (suc N + j)) ∙ rest j))

  pub finished : gather ps 64 ≡ part base B m
  finished =
      let e : 64 ≡ suc N + (63 - N) = omega (arith, end.small) in
      ap (gather ps) e
      ∙ (rest (63 - N)
      ∙ (ap₂ ◌++◌ (front N (omega arith)) (sym end.lies)
      ∙ (sym (part_add base (N * p) (length (ps N)) m) ∙ ap (λ (k : ℕ). part base k m) (end.ending refl))))

pub completed : (base p B : ℕ) (m : List ℕ) (o : Option ℕ) (taken : ℕ) (ps : ℕ → List ℕ) → Pieces base p B m o taken ps → complete_with o taken ≡ true → gather ps 64 ≡ part base B m
completed base p B m None taken ps h c = absurd (both_ways false refl c)
completed base p B m (Some N) taken ps h c = finished base p B N m taken ps h c

-- a segment of L bytes that fits: a whole piece with more behind it, or the end
abbrev pub Tight : Bool → ℕ → ℕ → ℕ → ℕ → Type 0
Tight false B n L q = (L ≡ q) × (n * q + q < B)
Tight true B n L q = n * q + L ≡ B

pub tight_inside : (last : Bool) (B n L q : ℕ) → Tight last B n L q → n * q + L ≤ B
tight_inside true B n L q t = omega arith
tight_inside false B n L q t = omega arith

pub record Fits (piece : Option ℕ) (B n : ℕ) (last : Bool) (L : ℕ) : Type 0 where
  pub off : offset B n last L ≡ n * piece_with B n last L
  pub within : L ≤ piece_with B n last L
  pub tight : Tight last B n L (piece_with B n last L)
  pub same : (p : ℕ) → piece ≡ Some p → p ≡ piece_with B n last L

agreed : (piece : Option ℕ) (q p : ℕ) → agrees piece q ≡ true → piece ≡ Some p → p ≡ q
agreed None q p h e = cc
agreed (Some r) q p h e = let z : r ≡ p = cc in sym z ∙ sym (eqb-true q r h)

none_fixed : (piece : Option ℕ) (q p : ℕ) → unfixed piece ≡ true → piece ≡ Some p → p ≡ q
none_fixed None q p h e = cc
none_fixed (Some r) q p h e = absurd (both_ways false refl h)

pub fit : (piece : Option ℕ) (B n : ℕ) (last : Bool) (L : ℕ) → fits piece B n last L ≡ true → Fits piece B n last L
fit piece B n false L h =
    let t = and_parts (agrees piece L) (ltb ((n + 1) * L) B) h in
    record {
      off = refl;
      within = omega arith;
      tight = (refl, omega (arith, ltb-true ((n + 1) * L) B t.1, add-mul n 1 L));
      same = λ p e. agreed piece L p t.0 e;
    }
fit piece B zero true L h =
    let t = and_parts (eqb L B) (unfixed piece) h in
    let e : L ≡ B = eqb-true L B t.0 in
    record {
      off = rw zero-mul (omega arith);
      within = omega arith;
      tight = rw zero-mul (omega arith);
      same = λ p i. none_fixed piece L p t.1 i;
    }
fit piece B (suc n) true L h =
    let q : ℕ = (B - L) / suc n in
    let no : eqb (suc n) 0 ≡ false = ne_eqb (suc n) 0 (λ e. omega arith) in
    let t = and_parts (ltb L B) _ (rw no at h) in
    let u = and_parts (eqb ((B - L) % suc n) 0) _ t.1 in
    let v = and_parts (leb L q) (agrees piece q) u.1 in
    let lt : L < B = ltb-true L B t.0 in
    let e : suc n * q ≡ B - L = omega (arith, div-add-mod (B - L) (suc n), eqb-true ((B - L) % suc n) 0 u.0) in
    record {
      off = rw no (sym e);
      within = rw no (leb-true L q v.0);
      tight = rw no (rw e (omega arith));
      same = λ p i. rw no (agreed piece q p v.1 i);
    }

-- two pieces that both reach the end are one
one_end : (i n q a b B : ℕ) → 0 < a → a ≤ q → 0 < b → b ≤ q → i * q + a ≡ B → n * q + b ≡ B → i ≡ n
one_end i n q a b B pa la pb lb e g = go (cases_lt i n) (cases_lt n i)
  where
    go : (i < n) ⊎ (n ≤ i) → (n < i) ⊎ (i ≤ n) → i ≡ n
    go (inl k) x = absurd (omega (arith, next_piece i n q k))
    go (inr k) (inl j) = absurd (omega (arith, next_piece n i q j))
    go (inr k) (inr j) = omega arith

-- a segment more
module _ (base q B : ℕ) (m : List ℕ) (last : Option ℕ) (taken : ℕ) (ps : ℕ → List ℕ) (h : Pieces base q B m last taken ps)
    (n : ℕ) (flag : Bool) (bs : List ℕ) (new : has n taken ≡ false) (some : 0 < length bs) (le : length bs ≤ q) (small : n < 64)
    (tight : Tight flag B n (length bs) q) (room : base + B ≤ length m) where
  abbrev more : ℕ → List ℕ
  more i = cond (eqb i n) bs (ps i)

  abbrev mem : List ℕ
  mem = pasted m (base + n * q) bs

  here : (flag : Bool) → Tight flag B n (length bs) q → Piece base q B mem (last_with last n flag) n bs
  here flag t =
      let i : n * q + length bs ≤ B = tight_inside flag B n (length bs) q t in
      record {
        lies = part_same m (base + n * q) bs (omega arith);
        some = some;
        within = le;
        inside = i;
        small = small;
        whole = whole flag t;
        ending = ending flag t;
      }
    where
      whole : (flag : Bool) → Tight flag B n (length bs) q → (last_with last n flag ≡ Some n → ⊥) → (length bs ≡ q) × (n * q + q < B)
      whole true t d = absurd (d refl)
      whole false t d = t

      ending : (flag : Bool) → Tight flag B n (length bs) q → last_with last n flag ≡ Some n → n * q + length bs ≡ B
      ending true t e = t
      ending false t e = absurd (both_ways (has n taken) new (h.known n e))

  there : (flag : Bool) → Tight flag B n (length bs) q → (i : ℕ) → (i ≡ n → ⊥) → has i taken ≡ true → Piece base q B mem (last_with last n flag) i (ps i)
  there flag t i d k =
      let x : Piece base q B m last i (ps i) = h.each i k in
      let j : n * q + length bs ≤ B = tight_inside flag B n (length bs) q t in
      record {
        lies = lies x j (cases_lt i n);
        some = x.some;
        within = x.within;
        inside = x.inside;
        small = x.small;
        whole = whole flag t x;
        ending = ending flag t x;
      }
    where
      lies : Piece base q B m last i (ps i) → n * q + length bs ≤ B → (i < n) ⊎ (n ≤ i) → part (base + i * q) (length (ps i)) mem ≡ ps i
      lies x j (inl l) =
          part_below m (base + n * q) bs (omega arith) (base + i * q) (length (ps i)) (omega (arith, next_piece i n q l)) ∙ x.lies
      lies x j (inr l) =
          let g : n < i = omega arith in
          part_above m (base + n * q) bs (omega arith) (base + i * q) (length (ps i)) (omega (arith, next_piece n i q g)) ∙ x.lies

      whole : (flag : Bool) → Tight flag B n (length bs) q → Piece base q B m last i (ps i) → (last_with last n flag ≡ Some i → ⊥) → (length (ps i) ≡ q) × (i * q + q < B)
      whole true t x e = x.whole (λ g. d (one_end i n q (length (ps i)) (length bs) B x.some x.within some le (x.ending g) t))
      whole false t x e = x.whole e

      ending : (flag : Bool) → Tight flag B n (length bs) q → Piece base q B m last i (ps i) → last_with last n flag ≡ Some i → i * q + length (ps i) ≡ B
      ending true t x e = let z : n ≡ i = cc in absurd (d (sym z))
      ending false t x e = x.ending e

  -- the numbers taken with it
  marked : (i : ℕ) → has i (bit_or taken (2 ^ n)) ≡ (eqb i n || has i taken)
  marked i = has_marked i n taken

  known : (flag : Bool) (i : ℕ) → last_with last n flag ≡ Some i → has i (bit_or taken (2 ^ n)) ≡ true
  known true i e = let z : n ≡ i = cc in marked i ∙ or_left (eqb i n) (has i taken) (eq-eqb i n (sym z))
  known false i e = marked i ∙ or_right (eqb i n) (has i taken) (h.known i e)

  pub added : Pieces base q B mem (last_with last n flag) (bit_or taken (2 ^ n)) more
  added =
      record {
        absent = λ i e.
            let t = or_parts (eqb i n) (has i taken) (sym (marked i) ∙ e) in
            rw t.0 (h.absent i t.1);
        each = λ i e. go i (sym (marked i) ∙ e) (cases_eq i n);
        known = known flag;
      }
    where
      go : (i : ℕ) → (eqb i n || has i taken) ≡ true → (i ≡ n) ⊎ (i ≡ n → ⊥) → Piece base q B mem (last_with last n flag) i (more i)
      go i e (inl z) = rw (eq-eqb i n z) (rw z (here flag tight))
      go i e (inr d) =
          let z : eqb i n ≡ false = ne_eqb i n d in
          rw z (there flag tight i d (rw z at e))
