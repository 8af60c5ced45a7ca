-- Where a search among the slots came to.
use Rattle.std.proofs.Common.{◌≡◌, ℕ, suc, ◌+◌, ◌<◌, Bool, true, false, cond, List, [], ◌∷◌, length, get_or, Some, None, Option, refl, arith}
use Rattle.rules.specs.Assembly.{on_arriving}
use Rattle.rules.specs.Headers.{on_some}
use Rattle.slots.specs.Searches.{first_from, first_slot}
use Rattle.slots.specs.Slides.{Slot, free, arriving, held, Object}

pub record Found (test : Slot → Bool) (i : ℕ) (xs : List Slot) (k : ℕ) : Type 0 where
  pub steps : ℕ
  pub place : k ≡ i + steps
  pub within : steps < length xs
  pub passes : test (get_or xs steps free) ≡ true

found_from : (test : Slot → Bool) (xs : List Slot) (i k : ℕ) → first_from test i xs ≡ Some k → Found test i xs k
found_from test [] i k h = absurd (let z : ◌≡◌ {A = ℕ} 0 1 = cc in omega arith)
found_from test (x ∷ xs) i k h = go (test x) refl h (found_from test xs (suc i) k)
  where
    go : (b : Bool) → test x ≡ b → cond b (Some i) (first_from test (suc i) xs) ≡ Some k → (first_from test (suc i) xs ≡ Some k → Found test (suc i) xs k) → Found test i (x ∷ xs) k
    go true e q ih =
        let z : i ≡ k = cc in
        record { steps = 0; place = omega arith; within = omega arith; passes = e }
    go false e q ih =
        let r : Found test (suc i) xs k = ih q in
        record { steps = suc r.steps; place = omega arith; within = omega arith; passes = r.passes }

-- the slot that is found passes the test
pub found_at : (test : Slot → Bool) (xs : List Slot) (k : ℕ) → first_slot test xs ≡ Some k → (k < length xs) × (test (get_or xs k free) ≡ true)
found_at test xs k e =
    let r : Found test 0 xs k = found_from test xs 0 k e in
    let y : r.steps ≡ k = omega arith in
    (omega arith, rw y at r.passes)

-- cases of a call's outcome
pub on_some_both : {A : Type 0} (P : A → Type 0) (o : Option ℕ) (x : A) (g : ℕ → A) → P x → ((k : ℕ) → o ≡ Some k → P (g k)) → P (on_some o x g)
on_some_both P None x g h i = h
on_some_both P (Some k) x g h i = i k refl

pub on_arriving_both : {A : Type 0} (P : A → Type 0) (z : Slot) (x : A) (g : Object → A) → P x → ((o : Object) → z ≡ arriving o → P (g o)) → P (on_arriving z x g)
on_arriving_both P free x g h i = h
on_arriving_both P (arriving o) x g h i = i o refl
on_arriving_both P (held y) x g h i = h

-- cases of a call's outcome and of what takes effect in it
pub cond_two : {A B : Type 0} (P : A → B → Type 0) (b : Bool) (x y : A) (u v : B) → (b ≡ true → P x u) → (b ≡ false → P y v) → P (cond b x y) (cond b u v)
cond_two P true x y u v f g = f refl
cond_two P false x y u v f g = g refl

pub on_some_two : {A B : Type 0} (P : A → B → Type 0) (o : Option ℕ) (x : A) (g : ℕ → A) (y : B) (d : ℕ → B) → P x y → ((k : ℕ) → o ≡ Some k → P (g k) (d k)) → P (on_some o x g) (on_some o y d)
on_some_two P None x g y d h i = h
on_some_two P (Some k) x g y d h i = i k refl

pub on_arriving_two : {A B : Type 0} (P : A → B → Type 0) (z : Slot) (x : A) (g : Object → A) (y : B) (d : Object → B) → P x y → ((o : Object) → z ≡ arriving o → P (g o) (d o)) → P (on_arriving z x g) (on_arriving z y d)
on_arriving_two P free x g y d h i = h
on_arriving_two P (arriving o) x g y d h i = i o refl
on_arriving_two P (held s) x g y d h i = h
