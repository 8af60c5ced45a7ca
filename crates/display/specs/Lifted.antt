-- Panel, film and the layers keep what every display owes.
use Rattle.std.specs.Prelude.{ℕ, ◌+◌, ◌-◌, ◌/◌, ◌≤◌, List, Option, length, min, nat_le}
use Rattle.std.proofs.Common.{div-add-mod', mod-lt, mul-le-mul_right, arith}
use Rattle.std.proofs.lemmas.Nat.{le-div}
use Rattle.std.proofs.lemmas.Bool.{leb-true, cond_both}
use Rattle.display.specs.Meaning.{Meaning, Card, Keeps}
use Rattle.display.specs.declared.cards.CardNumbers.{CardNumbers}
use Rattle.display.specs.Frame.{panel, panel_card}
use Rattle.display.specs.Tape.{film, film_card}
use Rattle.display.specs.Layering.{up, layered, edged, delayed, layer_over, acting_period, acting_delay, edge_over, lag_over}

pub up_low : (p t : ℕ) → 1 ≤ p → t ≤ up p t
up_low p t h = omega (arith, div-add-mod' (t + (p - 1)) p, mod-lt (t + (p - 1)) h)

pub up_high : (p t : ℕ) → up p t ≤ t + (p - 1)
up_high p t = omega (arith, div-add-mod' (t + (p - 1)) p)

pub up_in_order : (p t u : ℕ) → 1 ≤ p → t ≤ u → up p t ≤ up p u
up_in_order p t u h le =
    mul-le-mul_right p (le-div ((t + (p - 1)) / p) (u + (p - 1)) p h (omega (arith, div-add-mod' (t + (p - 1)) p)))

-- a layer keeps it that puts moments off, by no more than it says, in order, and within the highest lag
layered_keeps : (m : Meaning) (most : ℕ) (later : ℕ → ℕ) → ((t : ℕ) → t ≤ later t) → ((t : ℕ) → later t ≤ t + most) → ((t u : ℕ) → t ≤ u → later t ≤ later u) → m.lag + most ≤ 10000 → Keeps m → Keeps (layered most later m)
layered_keeps m most later early within order fits k = record {
  frame_small = k.frame_small;
  lag_small = fits;
  not_early = λ t h. omega (arith, early t, within t, k.not_early (later t) (omega (arith, within t)));
  within_lag = λ t h. omega (arith, early t, within t, k.within_lag (later t) (omega (arith, within t)));
  in_order = λ t u le h. k.in_order (later t) (later u) (order t u le) (omega (arith, within u));
}

-- so it is kept at frame edges a period apart, and behind a delay
pub edge_keeps : (m : Meaning) (p : ℕ) → 1 ≤ p → m.lag + (p - 1) ≤ 10000 → Keeps m → Keeps (edged p m)
edge_keeps m p low fits k =
    layered_keeps m (p - 1) (up p) (λ t. up_low p t low) (λ t. up_high p t) (λ t u le. up_in_order p t u low le) fits k

pub lag_keeps : (m : Meaning) (d : ℕ) → m.lag + d ≤ 10000 → Keeps m → Keeps (delayed d m)
lag_keeps m d fits k =
    layered_keeps m d (λ t. t + d) (λ t. omega arith) (λ t. omega arith) (λ t u le. omega arith) fits k

pub layer_keeps : (m : Meaning) (most : ℕ → ℕ) (later : ℕ → ℕ → ℕ) → ((lag t : ℕ) → t ≤ later lag t) → ((lag t : ℕ) → later lag t ≤ t + most lag) → ((lag t u : ℕ) → t ≤ u → later lag t ≤ later lag u) → ((lag : ℕ) → lag ≤ 10000 → lag + most lag ≤ 10000) → Keeps m → Keeps (layer_over most later m)
layer_keeps m most later early within order fits k =
    layered_keeps m (most m.lag) (later m.lag) (early m.lag) (within m.lag) (order m.lag) (fits m.lag k.lag_small) k

-- the period that acts is one
acting_low : (p : ℕ) → 1 ≤ p → (lag : ℕ) → 1 ≤ acting_period p lag
acting_low p low lag = cond_both (nat_le (lag + (p - 1)) 10000) p 1 (λ q. 1 ≤ q) (λ e. low) (λ e. omega arith)

pub edge_not_early : (p : ℕ) → 1 ≤ p → (lag t : ℕ) → t ≤ up (acting_period p lag) t
edge_not_early p low lag t = up_low (acting_period p lag) t (acting_low p low lag)

pub edge_within : (p : ℕ) → (lag t : ℕ) → up (acting_period p lag) t ≤ t + (acting_period p lag - 1)
edge_within p lag t = up_high (acting_period p lag) t

pub edge_in_order : (p : ℕ) → 1 ≤ p → (lag t u : ℕ) → t ≤ u → up (acting_period p lag) t ≤ up (acting_period p lag) u
edge_in_order p low lag t u le = up_in_order (acting_period p lag) t u (acting_low p low lag) le

pub edge_fits : (p : ℕ) → (lag : ℕ) → lag ≤ 10000 → lag + (acting_period p lag - 1) ≤ 10000
edge_fits p lag h =
    cond_both (nat_le (lag + (p - 1)) 10000) p 1 (λ q. lag + (q - 1) ≤ 10000) (λ e. leb-true _ _ e) (λ e. omega arith)

pub lag_not_early : (d lag t : ℕ) → t ≤ t + acting_delay d lag
lag_not_early d lag t = omega arith

pub lag_within : (d lag t : ℕ) → t + acting_delay d lag ≤ t + acting_delay d lag
lag_within d lag t = omega arith

pub lag_in_order : (d lag t u : ℕ) → t ≤ u → t + acting_delay d lag ≤ u + acting_delay d lag
lag_in_order d lag t u le = omega arith

pub lag_fits : (d lag : ℕ) → lag ≤ 10000 → lag + acting_delay d lag ≤ 10000
lag_fits d lag h =
    cond_both (nat_le (lag + (d - 0)) 10000) d 0 (λ q. lag + q ≤ 10000) (λ e. omega (arith, leb-true (lag + (d - 0)) 10000 e)) (λ e. omega arith)

-- so the two layers keep it
pub edge_over_keeps : (m : Meaning) (p : ℕ) → 1 ≤ p → Keeps m → Keeps (edge_over p m)
edge_over_keeps m p low k =
    layer_keeps m (λ lag. acting_period p lag - 1) (λ lag. up (acting_period p lag)) (edge_not_early p low) (edge_within p) (edge_in_order p low) (edge_fits p) k

pub lag_over_keeps : (m : Meaning) (d : ℕ) → Keeps m → Keeps (lag_over d m)
lag_over_keeps m d k =
    layer_keeps m (acting_delay d) (λ lag t. t + acting_delay d lag) (lag_not_early d) (lag_within d) (lag_in_order d) (lag_fits d) k

-- a display with no lag that settles every moment to itself
plain_keeps : (n : ℕ) (c : Option Card) → n ≤ 65536 → Keeps (record { frame = n; lag = 0; settle = λ t. t; card = c })
plain_keeps n c h = record {
  frame_small = h;
  lag_small = omega arith;
  not_early = λ t h. omega arith;
  within_lag = λ t h. omega arith;
  in_order = λ t u le h. le;
}

pub panel_keeps : (xs : List ℕ) (c : Option CardNumbers) → Keeps (panel xs c)
panel_keeps xs c = plain_keeps (min (length xs) 65536) (panel_card xs c) (omega arith)

pub film_keeps : (tape : List ℕ) (last : Option ℕ) → Keeps (film tape last)
film_keeps tape last = plain_keeps (min (length tape - 12) 65536) (film_card tape last) (omega arith)
