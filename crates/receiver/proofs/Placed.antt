-- The rack of category places once a slide was put into a category.
use Rattle.std.proofs.Common.{◌≡◌, ℕ, ◌≤◌, Bool, true, false, cond, not, ◌&&◌, ◌||◌, eqb, ltb, List, length, filter, sym, refl, ap, ◌∙◌, Some}
use Rattle.header.specs.declared.kinds.Category.{Category}
use Rattle.receiver.proofs.Room.{put_there}
use Rattle.rules.proofs.Rooms.{places_room}
use Rattle.rules.specs.Soundness.{Sound}
use Rattle.rules.specs.Worlds.{State, any, in_category}
use Rattle.shelf.specs.Kinds.{by_place}
use Rattle.shelf.specs.Places.{shelved}
use Rattle.shelf.specs.declared.entries.Entry.{Entry}
use Rattle.slots.specs.Slides.{numbered}

-- what is neither is not the first
not_first : (a b : Bool) → not (a || b) ≡ true → a ≡ false
not_first true b e = sym e
not_first false b e = refl

module _ (s : State) (h : Sound s) (n : ℕ) (t : any (numbered n) s.slots ≡ true) (k : Category) where
  abbrev stays : Entry (ℕ × ℕ) → Bool
  stays e = not (eqb e.load n || (eqb e.key.0 k.category && eqb e.key.1 k.slide))

  abbrev entry : ℕ × ℕ → Entry (ℕ × ℕ)
  entry p = record { key = p; load = n }

  pub put_in : (p : ℕ × ℕ) (r : Bool) (xs zs : List (Entry (ℕ × ℕ))) → p ≡ (k.category, k.slide) → xs ≡ filter stays s.places → r ≡ ltb (length xs) 12 → zs ≡ cond r (shelved by_place (entry p) xs) xs → zs ≡ in_category (Some k) n s.places
  put_in p r xs zs q e room list =
      let few : length xs ≤ 11 = rw e (places_room s h stays n t (λ d v. not_first (eqb d.load n) _ v)) in
      put_there r xs (shelved by_place (entry p) xs) zs room list few
      ∙ ap (λ x. shelved by_place (entry x) xs) q
      ∙ ap (shelved by_place (entry (k.category, k.slide))) e
