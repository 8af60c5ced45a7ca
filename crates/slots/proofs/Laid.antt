-- The law of pieces: what every segment keeps true of an object and the memory of its body.
use Rattle.std.proofs.Common.{◌≡◌, ℕ, zero, suc, ◌+◌, ◌*◌, ◌^◌, ◌≤◌, true, false, eqb, List, [], ◌∷◌, length, take, drop, Some, None, Option, unwrap_or, sym, refl, ap, ◌∙◌, subst, arith}
use lib.Bits.{bit_or}
use Rattle.packed.proofs.Overwritten.{length_pasted, below_pasted, above_pasted}
use Rattle.packed.specs.Parts.{pasted}
use Rattle.std.proofs.ByRecursion.{All-weaker}
use Rattle.std.proofs.lemmas.List.{length-append}
use Rattle.std.proofs.lemmas.Bool.{both_ways, eq-eqb, ne_eqb, or_left, or_right, cond-true, cond-false}
use Rattle.std.specs.List.{AllByRecursion}
use Rattle.slots.specs.Pieces.{part, gather, lengths, Sent, segment_of, PieceLaid, Receipt, begun, left_by, received, received_all, bytes_at, Once, LaidWell, PiecesMakeTheBody}
use Rattle.slots.specs.Segments.{has, landing, piece_with}
use Rattle.slots.specs.declared.progress.Landing.{Landing}
use Rattle.slots.specs.declared.progress.Landing.TheVariants.{Misfit, Again, At}
use Rattle.slots.proofs.Landings.{Lands, lands}
use Rattle.slots.proofs.Memory.{length_part}
use Rattle.slots.proofs.Numbers.{has_none, has_marked}
use Rattle.slots.proofs.Pieces.{Pieces, Piece, Fits, Tight, fit, tight_inside, next_piece, added, completed}

-- p is the piece size, if that is fixed
abbrev pub Agrees : Option ℕ → ℕ → Type 0
Agrees piece p = (q : ℕ) → piece ≡ Some q → q ≡ p

-- a piece that was laid down: it was taken under its number, lies at a whole number of pieces, and is the one of that number
abbrev pub Owned : ℕ → ℕ → List PieceLaid → PieceLaid → Type 0
Owned p taken xs x = (has x.number taken ≡ true) × (x.offset ≡ x.number * p) × (bytes_at xs x.number ≡ x.bytes)

pub record Stands (base B : ℕ) (m : List ℕ) (r : Receipt) : Type 0 where
  pub size : r.progress.size ≡ B
  pub room : base + B ≤ length r.memory
  pub long : length r.memory ≡ length m
  pub pieces : (p : ℕ) → Agrees r.progress.piece p → Pieces base p B r.memory r.progress.last r.progress.taken (bytes_at r.laid)
  pub owned : (p : ℕ) → Agrees r.progress.piece p → AllByRecursion (Owned p r.progress.taken r.laid) r.laid
  pub once : Once r.laid
  pub before : take base r.memory ≡ take base m
  pub behind : drop (base + B) r.memory ≡ drop (base + B) m

pub stands_begun : (base B : ℕ) (m : List ℕ) → base + B ≤ length m → Stands base B m (begun B m)
stands_begun base B m room = record {
  size = refl;
  room = room;
  long = refl;
  pieces = λ p _. record {
    absent = λ i _. refl;
    each = λ i e. absurd (both_ways (has i 0) (has_none i) e);
    known = λ i e. let z : ◌≡◌ {A = ℕ} 0 1 = cc in absurd (omega arith);
  };
  owned = λ p _. tt;
  once = tt;
  before = refl;
  behind = refl;
}

-- a piece of another number is where it was
still : (p taken n o : ℕ) (bs : List ℕ) (xs : List PieceLaid) → has n taken ≡ false → (x : PieceLaid) → Owned p taken xs x → Owned p (bit_or taken (2 ^ n)) (record { number = n; offset = o; bytes = bs } ∷ xs) x
still p taken n o bs xs new x h =
    let other : x.number ≡ n → ⊥ = λ e. both_ways (has n taken) new (rw e at h.0) in (
      has_marked x.number n taken ∙ or_right (eqb x.number n) (has x.number taken) h.0,
      h.1,
      cond-false (eqb x.number n) bs (bytes_at xs x.number) (ne_eqb x.number n other) ∙ h.2,
    )

-- a segment that lands
module _ (base B : ℕ) (m : List ℕ) (r : Receipt) (h : Stands base B m r) (s : Sent) (o : ℕ) (e : landing r.progress (segment_of s) ≡ At o) where
  l : Lands r.progress (segment_of s) o
  l = lands r.progress (segment_of s) o e

  -- the piece size with it
  abbrev q : ℕ
  q = piece_with r.progress.size s.number s.last (length s.bytes)

  f : Fits r.progress.piece r.progress.size s.number s.last (length s.bytes)
  f = fit r.progress.piece r.progress.size s.number s.last (length s.bytes) l.fitting

  place : o ≡ s.number * q
  place = sym l.place ∙ f.off

  tight : Tight s.last B s.number (length s.bytes) q
  tight = subst (λ (b : ℕ). Tight s.last b s.number (length s.bytes) q) h.size f.tight

  inside : o + length s.bytes ≤ B
  inside = omega (arith, place, tight_inside s.last B s.number (length s.bytes) q tight)

  fits_in : base + o + length s.bytes ≤ length r.memory
  fits_in = omega (arith, inside, h.room)

  abbrev after : Receipt
  after = left_by (At o) base r s

  pieces_at_q : Pieces base q B after.memory after.progress.last after.progress.taken (bytes_at after.laid)
  pieces_at_q =
      subst (λ (i : ℕ). Pieces base q B (pasted r.memory (base + i) s.bytes) after.progress.last after.progress.taken (bytes_at after.laid)) (sym place) (added base q B r.memory r.progress.last r.progress.taken (bytes_at r.laid) (h.pieces q f.same) s.number s.last s.bytes l.new l.some f.within l.small tight h.room)

  owned_at_q : AllByRecursion (Owned q after.progress.taken after.laid) after.laid
  owned_at_q = (
    (
      has_marked s.number s.number r.progress.taken ∙ or_left (eqb s.number s.number) (has s.number r.progress.taken) (eq-eqb s.number s.number refl),
      place,
      cond-true (eqb s.number s.number) s.bytes (bytes_at r.laid s.number) (eq-eqb s.number s.number refl),
    ),
    All-weaker (Owned q r.progress.taken r.laid) (Owned q after.progress.taken after.laid) (still q r.progress.taken s.number o s.bytes r.laid l.new) r.laid (h.owned q f.same),
  )

  stands_landed : Stands base B m after
  stands_landed = record {
    size = h.size;
    room = omega (arith, length_pasted r.memory (base + o) s.bytes fits_in, h.room);
    long = length_pasted r.memory (base + o) s.bytes fits_in ∙ h.long;
    pieces = λ p a. subst (λ (i : ℕ). Pieces base i B after.memory after.progress.last after.progress.taken (bytes_at after.laid)) (a q refl) pieces_at_q;
    owned = λ p a. subst (λ (i : ℕ). AllByRecursion (Owned i after.progress.taken after.laid) after.laid) (a q refl) owned_at_q;
    once = (All-weaker (Owned q r.progress.taken r.laid) _ (λ y w e. both_ways (has s.number r.progress.taken) l.new (rw e w.0)) r.laid (h.owned q f.same), h.once);
    before = below_pasted r.memory (base + o) s.bytes fits_in base (omega arith) ∙ h.before;
    behind = above_pasted r.memory (base + o) s.bytes fits_in (base + B) (omega (arith, inside)) ∙ h.behind;
  }

stands_by : (base B : ℕ) (m : List ℕ) (r : Receipt) → Stands base B m r → (s : Sent) (l : Landing) → landing r.progress (segment_of s) ≡ l → Stands base B m (left_by l base r s)
stands_by base B m r h s Misfit e = h
stands_by base B m r h s Again e = h
stands_by base B m r h s (At o) e = stands_landed base B m r h s o e

pub stands_all : (base B : ℕ) (m : List ℕ) (r : Receipt) → Stands base B m r → (ss : List Sent) → Stands base B m (received_all base r ss)
stands_all base B m r h [] = h
stands_all base B m r h (s ∷ ss) =
    stands_all base B m (received base r s) (stands_by base B m r h s (landing r.progress (segment_of s)) refl) ss

-- what that says of the body
abbrev the_size : Option ℕ → ℕ
the_size o = unwrap_or o 0

agrees_self : (o : Option ℕ) → Agrees o (the_size o)
agrees_self None q e = let z : ◌≡◌ {A = ℕ} 0 1 = cc in absurd (omega arith)
agrees_self (Some p) q e = cc

gather_lengths : (ps : ℕ → List ℕ) (n : ℕ) → lengths ps n ≡ length (gather ps n)
gather_lengths ps zero = refl
gather_lengths ps (suc n) = ap (λ (i : ℕ). i + length (ps n)) (gather_lengths ps n) ∙ sym (length-append (gather ps n) (ps n))

module _ (base B : ℕ) (m : List ℕ) (r : Receipt) (h : Stands base B m r) where
  abbrev p : ℕ
  p = the_size r.progress.piece

  abbrev ps : ℕ → List ℕ
  ps = bytes_at r.laid

  all_pieces : Pieces base p B r.memory r.progress.last r.progress.taken ps
  all_pieces = h.pieces p (agrees_self r.progress.piece)

  -- a piece that was laid down, as one of them
  piece_of : (x : PieceLaid) → Owned p r.progress.taken r.laid x → Piece base p B r.memory r.progress.last x.number x.bytes
  piece_of x o = subst (λ (bs : List ℕ). Piece base p B r.memory r.progress.last x.number bs) o.2 (all_pieces.each x.number o.0)

  each : (Q : PieceLaid → Type 0) → ((x : PieceLaid) → x.offset ≡ x.number * p → Piece base p B r.memory r.progress.last x.number x.bytes → Q x) → AllByRecursion Q r.laid
  each Q f = All-weaker (Owned p r.progress.taken r.laid) Q (λ x o. f x o.1 (piece_of x o)) r.laid (h.owned p (agrees_self r.progress.piece))

  pub laid_well : LaidWell base B m r
  laid_well = record {
    once = h.once;
    numbered = All-weaker (Owned p r.progress.taken r.laid) _ (λ x o. ((piece_of x o).small, o.2)) r.laid (h.owned p (agrees_self r.progress.piece));
    some = each _ (λ x e c. c.some);
    within = each _ (λ x e c. omega (arith, e, c.inside));
    apart = each _ (λ x e c. each _ (λ y g d k. omega (arith, e, g, c.within, next_piece x.number y.number p k)));
    kept = each _ (λ x e c. ap (λ (i : ℕ). part (base + i) (length x.bytes) r.memory) e ∙ c.lies);
    whole = λ c.
        let g = completed base p B r.memory r.progress.last r.progress.taken ps all_pieces c in
        (g, gather_lengths ps 64 ∙ ap length g ∙ length_part base B r.memory h.room);
    long = h.long;
    before = h.before;
    behind = h.behind;
  }

pub pieces_law : PiecesMakeTheBody
pieces_law base B m ss room =
    laid_well base B m (received_all base (begun B m) ss) (stands_all base B m (begun B m) (stands_begun base B m room) ss)
