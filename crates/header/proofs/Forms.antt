-- Parameters read back from how they are written, and written from how they are read.
use Rattle.std.proofs.Common.{◌≡◌, ℕ, ◌+◌, ◌*◌, ◌/◌, ◌%◌, ◌<◌, ◌≤◌, Bool, true, false, cond, eqb, ltb, leb, List, [], ◌∷◌, ◌++◌, length, get_or, take, drop, Some, None, Option, sym, refl, ap, ◌∙◌, subst, arith, length-append, length-drop}
use Rattle.packed.specs.Bits.{field, whole}
use Rattle.std.proofs.ByRecursion.{All-take, All-drop}
use Rattle.std.proofs.lemmas.List.{take_at, drop_at, drop-drop, take-append-drop, length-take-le}
use Rattle.std.proofs.lemmas.Bool.{ltb-true, ltb-false, leb-true, eqb-true, eqb-false, lt-ltb, le-leb, eq-eqb, ne_eqb, cond-true, cond-false}
use Rattle.std.specs.List.{AllByRecursion}
use Rattle.header.specs.Params.{mark_in, id_in, long_extent, marked_length, extent_with, extent_of, Part, first_within, first_of}
use Rattle.header.proofs.Chains.{none_not, passed}
use Rattle.header.proofs.Lengths.{squared, by_rule}
use Rattle.header.specs.Written.{Form, marked, short, long, written_as, GivesLength}

-- a part that begins behind its head and what gives its length
cut : (head : ℕ) (front xs ys : List ℕ) (start size : ℕ) → length (head ∷ front) ≡ start → length xs ≡ size → first_within ((head ∷ front) ++ (xs ++ ys)) (Some (start, size)) ≡ Some (record { id = id_in head; holds = xs; rest = ys })
cut head front xs ys start size f s =
    let all : List ℕ = (head ∷ front) ++ (xs ++ ys) in
    let long : start + size ≤ length all = omega (arith, length-append (head ∷ front) (xs ++ ys), length-append xs ys) in
    let d : drop start all ≡ xs ++ ys = drop_at (head ∷ front) (xs ++ ys) start f in
    let h : take size (drop start all) ≡ xs = ap (take size) d ∙ take_at xs ys size s in
    let r : drop (start + size) all ≡ ys = sym (drop-drop size start all) ∙ ap (drop size) d ∙ drop_at xs ys size s in
    cond-true (leb (start + size) (length all)) _ _ (le-leb (start + size) (length all) long) ∙ (λ k. Some (record { id = id_in head; holds = h k; rest = r k }))

-- behind flag 0 the length is in 7 bits, whatever follows
short_extent : (a : ℕ) (xs : List ℕ) → a < 128 → long_extent (a ∷ xs) ≡ Some (2, a)
short_extent a xs h = within xs
  where
    flag : eqb (field 8 0 1 a) 0 ≡ true
    flag = eq-eqb (field 8 0 1 a) 0 (omega arith)

    same : ◌≡◌ {A = Option (ℕ × ℕ)} (Some (2, field 8 1 7 a)) (Some (2, a))
    same = let e : field 8 1 7 a ≡ a = omega arith in ap (λ (n : ℕ). Some (2, n)) e

    within : (zs : List ℕ) → long_extent (a ∷ zs) ≡ Some (2, a)
    within [] = cond-true (eqb (field 8 0 1 a) 0) _ _ flag ∙ same
    within (b ∷ zs) = cond-true (eqb (field 8 0 1 a) 0) _ _ flag ∙ same

-- behind flag 1 it is in 15 bits
long_extent_is : (a b n : ℕ) (xs : List ℕ) → a < 128 → b < 256 → a * 256 + b ≡ n → long_extent ((128 + a) ∷ b ∷ xs) ≡ Some (3, n)
long_extent_is a b n xs h k e =
    let flag : eqb (field 8 0 1 (128 + a)) 0 ≡ false = ne_eqb (field 8 0 1 (128 + a)) 0 (omega arith) in
    let same : field 16 1 15 (whole ((128 + a) ∷ b ∷ [])) ≡ n = omega arith in
    cond-false (eqb (field 8 0 1 (128 + a)) 0) _ _ flag ∙ ap (λ (m : ℕ). Some (3, m)) same

-- the head of a parameter holds its mark and its id
mark_is : (m id : ℕ) → m < 4 → id < 64 → mark_in (m * 64 + id) ≡ m
mark_is m id h k = omega arith

id_is : (m id : ℕ) → id < 64 → id_in (m * 64 + id) ≡ id
id_is m id k = omega arith

marked_extent : (m id : ℕ) (xs : List ℕ) → m < 3 → id < 64 → extent_of ((m * 64 + id) ∷ xs) ≡ Some (1, m * m)
marked_extent m id xs h k =
    ap (λ (n : ℕ). extent_with (marked_length n) xs) (mark_is m id (omega arith) k)
    ∙ ap (λ (o : Option ℕ). extent_with o xs) (squared m ∙ cond-true (ltb m 3) _ _ (lt-ltb m 3 h))

unmarked_extent : (id : ℕ) (xs : List ℕ) → id < 64 → extent_of ((3 * 64 + id) ∷ xs) ≡ long_extent xs
unmarked_extent id xs k =
    ap (λ (n : ℕ). extent_with (marked_length n) xs) (mark_is 3 id (omega arith) k)

-- a parameter whose data lie behind its head and front
lies : (head id start : ℕ) (front xs ys : List ℕ) → id_in head ≡ id → length (head ∷ front) ≡ start → extent_of ((head ∷ front) ++ (xs ++ ys)) ≡ Some (start, length xs) → first_of ((head ∷ front) ++ (xs ++ ys)) ≡ Some (record { id = id; holds = xs; rest = ys })
lies head id start front xs ys i f e =
    ap (first_within ((head ∷ front) ++ (xs ++ ys))) e ∙ cut head front xs ys start (length xs) f refl ∙ ap (λ (n : ℕ). Some (record { id = n; holds = xs; rest = ys })) i

-- what is written is read back
pub read_back : (f : Form) (id : ℕ) (xs ys : List ℕ) → id < 64 → GivesLength f (length xs) → first_of (written_as f id xs ++ ys) ≡ Some (record { id = id; holds = xs; rest = ys })
read_back (marked m) id xs ys i g =
    lies (m * 64 + id) id 1 [] xs ys (id_is m id i) refl (marked_extent m id (xs ++ ys) g.0 i ∙ ap (λ (n : ℕ). Some (1, n)) (sym g.1))
read_back short id xs ys i g =
    lies (3 * 64 + id) id 2 (length xs ∷ []) xs ys (id_is 3 id i) refl (unmarked_extent id (length xs ∷ (xs ++ ys)) i ∙ short_extent (length xs) (xs ++ ys) g)
read_back long id xs ys i g =
    lies (3 * 64 + id) id 3 ((128 + length xs / 256) ∷ (length xs % 256) ∷ []) xs ys (id_is 3 id i) refl (unmarked_extent id ((128 + length xs / 256) ∷ (length xs % 256) ∷ (xs ++ ys)) i ∙ long_extent_is (length xs / 256) (length xs % 256) (length xs) (xs ++ ys) (omega arith) (omega arith) (omega arith))

-- what was read as the part of that extent
record Cut (xs : List ℕ) (start size : ℕ) (q : Part) : Type 0 where
  names : q.id ≡ id_in (get_or xs 0 0)
  sized : length q.holds ≡ size
  lies_at : q.holds ++ q.rest ≡ drop start xs

cut_from : (xs : List ℕ) (start size : ℕ) (q : Part) → first_within xs (Some (start, size)) ≡ Some q → Cut xs start size q
cut_from xs start size q e =
    let (t, is) = passed (leb (start + size) (length xs)) _ q e in
    let fits = leb-true (start + size) (length xs) t in
    let room : size ≤ length (drop start xs) = omega (arith, length-drop start xs) in
    let whole_is : take size (drop start xs) ++ drop (start + size) xs ≡ drop start xs = ap (λ (ys : List ℕ). take size (drop start xs) ++ ys) (sym (drop-drop size start xs)) ∙ take-append-drop size (drop start xs) in
    record {
      names = ap (λ (r : Part). r.id) (sym is);
      sized = ap (λ (r : Part). length r.holds) (sym is) ∙ length-take-le size (drop start xs) room;
      lies_at = ap (λ (r : Part). r.holds ++ r.rest) (sym is) ∙ whole_is;
    }

-- a form in which a part that was read stands in xs
abbrev pub Stands : List ℕ → Part → Type 0
Stands xs q =
    (f : Form) × (q.id < 64) × GivesLength f (length q.holds) × (written_as f q.id q.holds ++ q.rest ≡ xs)

stands_marked : (h : ℕ) (t : List ℕ) (q : Part) → h < 256 → mark_in h < 3 → Cut (h ∷ t) 1 (mark_in h * mark_in h) q → Stands (h ∷ t) q
stands_marked h t q b m c =
    let n = c.names in
    let head : mark_in h * 64 + q.id ≡ h = omega arith in
    (marked (mark_in h), omega arith, (m, c.sized), λ k. head k ∷ c.lies_at k)

stands_short : (h a : ℕ) (t : List ℕ) (q : Part) → h < 256 → a < 256 → 3 ≤ mark_in h → field 8 0 1 a ≡ 0 → Cut (h ∷ a ∷ t) 2 (field 8 1 7 a) q → Stands (h ∷ a ∷ t) q
stands_short h a t q b b' m z c =
    let n = c.names in
    let l = c.sized in
    let head : 3 * 64 + q.id ≡ h = omega arith in
    let size : length q.holds ≡ a = omega arith in
    (short, omega arith, omega arith, λ k. head k ∷ size k ∷ c.lies_at k)

stands_long : (h a d : ℕ) (t : List ℕ) (q : Part) → h < 256 → a < 256 → d < 256 → 3 ≤ mark_in h → (field 8 0 1 a ≡ 0 → ⊥) → Cut (h ∷ a ∷ d ∷ t) 3 (field 16 1 15 (whole (a ∷ d ∷ []))) q → Stands (h ∷ a ∷ d ∷ t) q
stands_long h a d t q b b' b'' m z c =
    let n = c.names in
    let l = c.sized in
    let head : 3 * 64 + q.id ≡ h = omega arith in
    let high : 128 + length q.holds / 256 ≡ a = omega arith in
    let low : length q.holds % 256 ≡ d = omega arith in
    (long, omega arith, omega arith, λ k. head k ∷ high k ∷ low k ∷ c.lies_at k)

-- behind mark 3
stands_behind : (h : ℕ) (t : List ℕ) (q : Part) → h < 256 → AllByRecursion (λ b. b < 256) t → 3 ≤ mark_in h → first_within (h ∷ t) (long_extent t) ≡ Some q → Stands (h ∷ t) q
stands_behind h [] q b bs m e = absurd (none_not q e)
stands_behind h (a ∷ []) q b bs m e = go (eqb (field 8 0 1 a) 0) refl e
  where
    go : (f : Bool) → eqb (field 8 0 1 a) 0 ≡ f → first_within (h ∷ a ∷ []) (cond f (Some (2, field 8 1 7 a)) None) ≡ Some q → Stands (h ∷ a ∷ []) q
    go true z c = stands_short h a [] q b bs.0 m (eqb-true _ _ z) (cut_from (h ∷ a ∷ []) 2 (field 8 1 7 a) q c)
    go false z c = absurd (none_not q c)
stands_behind h (a ∷ d ∷ t) q b bs m e = go (eqb (field 8 0 1 a) 0) refl e
  where
    n : ℕ
    n = field 16 1 15 (whole (a ∷ d ∷ []))

    go : (f : Bool) → eqb (field 8 0 1 a) 0 ≡ f → first_within (h ∷ a ∷ d ∷ t) (cond f (Some (2, field 8 1 7 a)) (Some (3, n))) ≡ Some q → Stands (h ∷ a ∷ d ∷ t) q
    go true z c = stands_short h a (d ∷ t) q b bs.0 m (eqb-true _ _ z) (cut_from (h ∷ a ∷ d ∷ t) 2 (field 8 1 7 a) q c)
    go false z c = stands_long h a d t q b bs.0 bs.1.0 m (eqb-false _ _ z) (cut_from (h ∷ a ∷ d ∷ t) 3 n q c)

-- what is read was written in some form
pub stands : (xs : List ℕ) (q : Part) → AllByRecursion (λ b. b < 256) xs → first_of xs ≡ Some q → Stands xs q
stands [] q bs e = absurd (none_not q e)
stands (h ∷ t) q bs e =
    go (ltb (mark_in h) 3) refl (ap (first_within (h ∷ t)) (sym (by_rule (h ∷ t))) ∙ e)
  where
    go : (f : Bool) → ltb (mark_in h) 3 ≡ f → first_within (h ∷ t) (cond f (Some (1, mark_in h * mark_in h)) (long_extent t)) ≡ Some q → Stands (h ∷ t) q
    go true m c = stands_marked h t q bs.0 (ltb-true (mark_in h) 3 m) (cut_from (h ∷ t) 1 (mark_in h * mark_in h) q c)
    go false m c = stands_behind h t q bs.0 bs.1 (ltb-false (mark_in h) 3 m) c

kept_within : (xs : List ℕ) (o : Option (ℕ × ℕ)) (q : Part) → AllByRecursion (λ b. b < 256) xs → first_within xs o ≡ Some q → AllByRecursion (λ b. b < 256) q.holds × AllByRecursion (λ b. b < 256) q.rest
kept_within xs None q bs e = absurd (none_not q e)
kept_within xs (Some d) q bs e =
    let (t, is) = passed (leb (d.0 + d.1) (length xs)) _ q e in
    subst (λ (r : Part). AllByRecursion (λ b. b < 256) r.holds × AllByRecursion (λ b. b < 256) r.rest) is (All-take (λ b. b < 256) d.1 (drop d.0 xs) (All-drop (λ b. b < 256) d.0 xs bs), All-drop (λ b. b < 256) (d.0 + d.1) xs bs)

-- a part of bytes has bytes, and leaves bytes
pub kept_bytes : (xs : List ℕ) (q : Part) → AllByRecursion (λ b. b < 256) xs → first_of xs ≡ Some q → AllByRecursion (λ b. b < 256) q.holds × AllByRecursion (λ b. b < 256) q.rest
kept_bytes xs q bs e = kept_within xs (extent_of xs) q bs e
