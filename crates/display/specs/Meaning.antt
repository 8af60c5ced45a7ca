-- What a display means: its frame size, its lag, how it settles moments, and its card.
use Rattle.std.specs.Prelude.{◌≡◌, ℕ, ◌+◌, ◌-◌, ◌<◌, ◌≤◌, Bool, cond, ◌&&◌, List, length, Some, None, Ok, Err, Option, Result, nat_le, nat_lt, slice_index}
use Rattle.display.specs.declared.cards.CardNumbers.{CardNumbers}
use Rattle.refusal.specs.declared.Fault.{Fault}
use Rattle.refusal.specs.declared.causes.Cause.TheVariants.{ShowOutOfBounds}
use Rattle.refusal.specs.declared.causes.Layer.TheVariants.{Display}

-- what a display shows: a slide by its accession number, the moment since when, and its bytes
pub record Card : Type 0 where
  pub accession : ℕ
  pub since : ℕ
  pub body : List ℕ

-- settle takes the moment told to the moment at which the display shows it
pub record Meaning : Type 0 where
  pub frame : ℕ
  pub lag : ℕ
  pub settle : ℕ → ℕ
  pub card : Option Card

-- a display of this frame size without a card, with no lag, that settles every moment to itself
abbrev pub blank : ℕ → Meaning
blank n = record { frame = n; lag = 0; settle = λ t. t; card = None }

-- the highest moment that a show takes
abbrev pub bound : Meaning → ℕ
bound m = 17592186044415 - m.lag

-- what every display owes: it never shows early, never later than its lag, and keeps moments in order
pub record Keeps (m : Meaning) : Type 0 where
  pub frame_small : m.frame ≤ 65536
  pub lag_small : m.lag ≤ 10000
  pub not_early : (t : ℕ) → t ≤ bound m → t ≤ m.settle t
  pub within_lag : (t : ℕ) → t ≤ bound m → m.settle t ≤ t + m.lag
  pub in_order : (t u : ℕ) → t ≤ u → u ≤ bound m → m.settle t ≤ m.settle u

-- what no show changes of a display: its frame, its lag, and how it settles moments
abbrev pub Steady : Meaning → Meaning → Type 0
Steady m n = (n.frame ≡ m.frame) × (n.lag ≡ m.lag) × (n.settle ≡ m.settle)

-- when a show is accepted
abbrev pub Accepts : Meaning → ℕ → ℕ → List ℕ → Type 0
Accepts m a t b = (0 < length b) × (length b ≤ m.frame) × (0 < a) × (t ≤ bound m)

-- one thing where a show is accepted, another where it is refused
abbrev pub ByShow : Meaning → ℕ → ℕ → List ℕ → Type 0 → Type 0 → Type 0
ByShow m a t b P Q = (Accepts m a t b → P) × ((Accepts m a t b → ⊥) → Q)

-- the display with another card
abbrev pub with_card : Meaning → Card → Meaning
with_card m c = record { frame = m.frame; lag = m.lag; settle = m.settle; card = Some c }

-- the display after an accepted show
abbrev pub shown : Meaning → ℕ → ℕ → List ℕ → Meaning
shown m a t b = with_card m (record { accession = a; since = m.settle t; body = b })

-- acceptance as a test
abbrev pub accepts : Meaning → ℕ → ℕ → List ℕ → Bool
accepts m a t b = nat_lt 0 (length b) && (nat_le (length b) m.frame && (nat_lt 0 a && nat_le t (bound m)))

-- the display after any show: a refused one leaves it
abbrev pub showed : Meaning → ℕ → ℕ → List ℕ → Meaning
showed m a t b = cond (accepts m a t b) (shown m a t b) m

abbrev pub show_fault : Fault
show_fault = record { cause = ShowOutOfBounds; layer = Display; place = 0 }

-- a show: from the display before it to the answer and the display after it
abbrev pub Shows : {U : Type 0} → Meaning → ℕ → ℕ → List ℕ → Result U Fault → Meaning → Type 0
Shows m a t b (Ok u) n = Accepts m a t b × (n ≡ shown m a t b)
Shows m a t b (Err e) n = (Accepts m a t b → ⊥) × (e ≡ show_fault) × (n ≡ m)

-- settle(t), or none above the bound
abbrev pub Settles : Meaning → ℕ → Option ℕ → Type 0
Settles m t (Some s) = (t ≤ bound m) × (s ≡ m.settle t)
Settles m t None = t ≤ bound m → ⊥

-- the card without its bytes
abbrev pub numbers : Option Card → Option CardNumbers
numbers None = None
numbers (Some c) = Some (record { accession = c.accession; since = c.since; length = length c.body })

-- the card's byte at i, or none past its end or without a card
abbrev pub Byte : Option Card → ℕ → Option ℕ → Type 0
Byte None i None = Unit {0}
Byte None i (Some b) = ⊥
Byte (Some c) i None = length c.body ≤ i
Byte (Some c) i (Some b) = (i < length c.body) × (b ≡ slice_index c.body i)
