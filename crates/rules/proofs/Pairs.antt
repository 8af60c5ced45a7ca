-- Two lists that go side by side.
use Rattle.std.proofs.Common.{◌≡◌, ℕ, Bool, true, false, cond, List, [], ◌∷◌, map, filter, refl, ap₂}
use Rattle.shelf.specs.Kinds.{by_moment}
use Rattle.shelf.specs.Places.{above, shelved}
use Rattle.shelf.specs.declared.entries.Entry.{Entry}
use Rattle.std.specs.List.{AllByRecursion}

pub data Both {X Y : Type 0} (R : X → Y → Type 0) : List X → List Y → Type 0 where
  none : Both R [] []
  more : {x : X} {y : Y} {xs : List X} {ys : List Y} → R x y → Both R xs ys → Both R (x ∷ xs) (y ∷ ys)

pick : {X Y : Type 0} (R : X → Y → Type 0) (x : X) (y : Y) {xs : List X} {ys : List Y} (b : Bool) → (b ≡ true → R x y) → Both R xs ys → Both R (cond b (x ∷ xs) xs) (cond b (y ∷ ys) ys)
pick R x y true r h = more (r refl) h
pick R x y false r h = h

-- related tests keep related entries, and may tie them closer
pub both_kept : {X Y : Type 0} {R R' : X → Y → Type 0} {xs : List X} {ys : List Y} (p : X → Bool) (q : Y → Bool) → ((x : X) (y : Y) → R x y → p x ≡ q y) → ((x : X) (y : Y) → R x y → p x ≡ true → R' x y) → Both R xs ys → Both R' (filter p xs) (filter q ys)
both_kept p q same tie none = none
both_kept {R' = R'} p q same tie (more {x = x} {y = y} {xs = xs} {ys = ys} r h) =
    rw (← same x y r) (pick R' x y (p x) (tie x y r) (both_kept p q same tie h))

pub both_tied : {X Y : Type 0} {R R' : X → Y → Type 0} {xs : List X} {ys : List Y} → ((x : X) (y : Y) → R x y → R' x y) → Both R xs ys → Both R' xs ys
both_tied i none = none
both_tied i (more {x = x} {y = y} r h) = more (i x y r) (both_tied i h)

pub both_map : {X Y Z : Type 0} {R : X → Y → Type 0} {xs : List X} {ys : List Y} (f : X → Z) (g : Y → Z) → ((x : X) (y : Y) → R x y → f x ≡ g y) → Both R xs ys → map f xs ≡ map g ys
both_map f g same none = refl
both_map f g same (more {x = x} {y = y} r h) = ap₂ (λ a as'. a ∷ as') (same x y r) (both_map f g same h)

pub both_all : {X Y Z : Type 0} {R : X → Y → Type 0} {xs : List X} {ys : List Y} (f : X → Z) (P : Z → Type 0) → ((x : X) (y : Y) → R x y → P (f x)) → Both R xs ys → AllByRecursion P (map f xs)
both_all f P i none = tt
both_all f P i (more {x = x} {y = y} r h) = (i x y r, both_all f P i h)

-- entries of the same moment go to the same place
set_in : (R : Entry ℕ → Entry ℕ → Type 0) (x y x' y' : Entry ℕ) {xs ys : List (Entry ℕ)} (b : Bool) → R x y → R x' y' → Both R xs ys → Both R (shelved by_moment x xs) (shelved by_moment y ys) → Both R (cond b (x ∷ x' ∷ xs) (x' ∷ shelved by_moment x xs)) (cond b (y ∷ y' ∷ ys) (y' ∷ shelved by_moment y ys))
set_in R x y x' y' true r r' h i = more r (more r' h)
set_in R x y x' y' false r r' h i = more r' i

pub both_shelved : (R : Entry ℕ → Entry ℕ → Type 0) {xs ys : List (Entry ℕ)} (x y : Entry ℕ) → ((x y : Entry ℕ) → R x y → x.key ≡ y.key) → R x y → Both R xs ys → Both R (shelved by_moment x xs) (shelved by_moment y ys)
both_shelved R x y same r none = more r none
both_shelved R x y same r (more {x = x'} {y = y'} {xs = xs} {ys = ys} r' h) =
    let e : above by_moment x.key x' ≡ above by_moment y.key y' =
    ap₂ (λ (a b : ℕ). above by_moment a (record { key = b; load = 0 })) (same x y r) (same x' y' r') in
    rw (← e) (set_in R x y x' y' (above by_moment x.key x') r r' h (both_shelved R x y same r h))
