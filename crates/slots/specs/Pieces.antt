-- Segments that are sent to one object, the memory in which they are laid down, and what becomes of its body.
use Rattle.std.specs.Prelude.{◌≡◌, ℕ, zero, suc, ◌+◌, ◌<◌, ◌≤◌, Bool, true, cond, List, [], ◌∷◌, ◌++◌, length, take, drop, ◌==◌, ◌≢◌}
use Rattle.packed.specs.Parts.{pasted}
use Rattle.std.specs.List.{AllByRecursion}
use Rattle.slots.specs.Segments.{landing, after_landing, complete}
use Rattle.slots.specs.Slides.{fresh}
use Rattle.slots.specs.declared.progress.Landing.{Landing}
use Rattle.slots.specs.declared.progress.Landing.TheVariants.{Misfit, Again, At}
use Rattle.slots.specs.declared.progress.Progress.{Progress}
use Rattle.slots.specs.declared.progress.Segment.{Segment}

-- n bytes of memory from a on
abbrev pub part : ℕ → ℕ → List ℕ → List ℕ
part a n m = take n (drop a m)

-- the pieces 0 to n - 1, one behind the other
abbrev pub gather : (ℕ → List ℕ) → ℕ → List ℕ
gather ps zero = []
gather ps (suc n) = gather ps n ++ ps n

-- how long they are together
abbrev pub lengths : (ℕ → List ℕ) → ℕ → ℕ
lengths ps zero = 0
lengths ps (suc n) = lengths ps n + length (ps n)

-- a segment with its bytes
pub record Sent : Type 0 where
  pub number : ℕ
  pub last : Bool
  pub bytes : List ℕ

abbrev pub segment_of : Sent → Segment
segment_of s = record { number = s.number; last = s.last; length = length s.bytes }

-- a segment that was taken: the offset of the body at which it was laid down
pub record PieceLaid : Type 0 where
  pub number : ℕ
  pub offset : ℕ
  pub bytes : List ℕ

-- an arriving object, the memory, and the pieces laid down so far
pub record Receipt : Type 0 where
  pub progress : Progress
  pub memory : List ℕ
  pub laid : List PieceLaid

-- an object of which nothing has come yet
abbrev pub begun : ℕ → List ℕ → Receipt
begun B m = record { progress = fresh B; memory = m; laid = [] }

-- a segment that fits is laid down at its offset of the body, which begins at base; any other changes nothing
abbrev pub memory_with : Landing → ℕ → List ℕ → List ℕ → List ℕ
memory_with Misfit base bs m = m
memory_with Again base bs m = m
memory_with (At o) base bs m = pasted m (base + o) bs

abbrev pub laid_with : Landing → Sent → List PieceLaid → List PieceLaid
laid_with Misfit s xs = xs
laid_with Again s xs = xs
laid_with (At o) s xs = record { number = s.number; offset = o; bytes = s.bytes } ∷ xs

-- what a segment leaves, by where it goes
abbrev pub left_by : Landing → ℕ → Receipt → Sent → Receipt
left_by l base r s =
    record { progress = after_landing l r.progress (segment_of s); memory = memory_with l base s.bytes r.memory; laid = laid_with l s r.laid }

abbrev pub received : ℕ → Receipt → Sent → Receipt
received base r s = left_by (landing r.progress (segment_of s)) base r s

-- one after the other
abbrev pub received_all : ℕ → Receipt → List Sent → Receipt
received_all base r [] = r
received_all base r (s ∷ ss) = received_all base (received base r s) ss

-- the bytes of the piece with this number, none where it has not come
abbrev pub bytes_at : List PieceLaid → ℕ → List ℕ
bytes_at [] n = []
bytes_at (x ∷ xs) n = cond (n == x.number) x.bytes (bytes_at xs n)

-- no number comes twice
abbrev pub Once : List PieceLaid → Type 0
Once [] = Unit {0}
Once (x ∷ xs) = AllByRecursion (λ (y : PieceLaid). x.number ≢ y.number) xs × Once xs

-- how the pieces of a body of B bytes at base lie in memory, which was m at first
pub record LaidWell (base B : ℕ) (m : List ℕ) (r : Receipt) : Type 0 where
  -- each has a number below 64, which no other has, and some bytes
  pub once : Once r.laid
  pub numbered : AllByRecursion (λ (x : PieceLaid). (x.number < 64) × (bytes_at r.laid x.number ≡ x.bytes)) r.laid
  pub some : AllByRecursion (λ (x : PieceLaid). 0 < length x.bytes) r.laid
  -- each lies within the body
  pub within : AllByRecursion (λ (x : PieceLaid). x.offset + length x.bytes ≤ B) r.laid
  -- no two overlap: the one with the lower number ends before the other begins
  pub apart : AllByRecursion (λ (x : PieceLaid). AllByRecursion (λ (y : PieceLaid). x.number < y.number → x.offset + length x.bytes ≤ y.offset) r.laid) r.laid
  -- each reads as it was sent
  pub kept : AllByRecursion (λ (x : PieceLaid). part (base + x.offset) (length x.bytes) r.memory ≡ x.bytes) r.laid
  -- once all is there, the pieces in the order of their numbers are the body, and their lengths add up to its size
  pub whole : complete r.progress ≡ true → (gather (bytes_at r.laid) 64 ≡ part base B r.memory) × (lengths (bytes_at r.laid) 64 ≡ B)
  -- memory is as long as it was, and outside the body it is as it was
  pub long : length r.memory ≡ length m
  pub before : take base r.memory ≡ take base m
  pub behind : drop (base + B) r.memory ≡ drop (base + B) m

-- whatever segments are sent in whatever order, the pieces lie well
abbrev pub PiecesMakeTheBody : Type 0
PiecesMakeTheBody =
    (base B : ℕ) (m : List ℕ) (ss : List Sent) → base + B ≤ length m → LaidWell base B m (received_all base (begun B m) ss)
