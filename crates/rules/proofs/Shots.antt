-- What takes effect as a walk goes from moment to moment is what one pass over what waits shows.
use Rattle.std.proofs.Common.{◌≡◌, ℕ, zero, suc, ◌+◌, ◌-◌, ◌≤◌, true, List, ◌++◌, map, filter, sym, ap, ◌∙◌, ap₂, add-zero, add-suc, arith}
use Rattle.rules.proofs.Passes.{Ready, map_ext, next, none_seen, same_shot, shooting, split, v, walks}
use Rattle.rules.specs.Effects.{tick_effects, walk_effects}
use Rattle.rules.specs.Passes.{seen, shot, passed_to}
use Rattle.rules.specs.Triggers.{Effect}
use Rattle.rules.specs.Worlds.{World}
use Rattle.shelf.specs.declared.entries.Entry.{Entry}
use Rattle.std.proofs.ByRecursion.{kept_by_passes}
use Rattle.std.proofs.lemmas.List.{map-append}

abbrev pub shots : ℕ → World → List Effect
shots t w = map (shot w) (filter (seen w.state t) w.state.waiting)

ticked_shots : (w : World) (t : ℕ) → tick_effects (passed_to t w) ≡ map (shot w) (filter (next w t) w.state.waiting)
unfolding tick_effects
ticked_shots w t =
    ap (map (shot (v w t))) (shooting w t)
    ∙ map_ext (λ e. next w t e ≡ true) (shot (v w t)) (shot w) (same_shot w t) (filter (next w t) w.state.waiting) (kept_by_passes (next w t) w.state.waiting)

walked_shots : (n : ℕ) (w : World) → Ready w.state → walk_effects n w ≡ shots (w.state.clock + n) w
walked_shots zero w h =
    sym (ap (map (shot w)) (ap (λ x. filter (seen w.state x) w.state.waiting) (add-zero w.state.clock) ∙ none_seen w h))
walked_shots (suc n) w h =
    let t : ℕ = w.state.clock + n in
    let a : List (Entry ℕ) = filter (seen w.state t) w.state.waiting in
    let b : List (Entry ℕ) = filter (next w t) w.state.waiting in
    ap₂ (λ (xs ys : List Effect). xs ++ ys) (walked_shots n w h) (ap tick_effects (walks n w h).0 ∙ ticked_shots w t)
    ∙ (sym (map-append (shot w) a b)
    ∙ (ap (map (shot w)) (split w t w.state.waiting h.ascending) ∙ ap (λ x. shots x w) (sym (add-suc w.state.clock n))))

-- the reading of t
pub reading_shots : (t : ℕ) (w : World) → Ready w.state → w.state.clock ≤ t → walk_effects (t - w.state.clock) w ≡ shots t w
reading_shots t w h k =
    let e : w.state.clock + (t - w.state.clock) ≡ t = omega arith in
    walked_shots (t - w.state.clock) w h ∙ ap (λ x. shots x w) e
