-- Lists of shows one behind the other.
use Rattle.std.proofs.Common.{ℕ, List, [], ◌∷◌, ◌++◌, subst}
use Rattle.rules.specs.Reached.{Reached}
use Rattle.rules.specs.Triggers.{Effect}

pub reached_on : {D : Type 0} (told : D → ℕ → ℕ → List ℕ → D → Type 0) (xs ys : List Effect) (d c e : D) → Reached told d xs c → Reached told c ys e → Reached told d (xs ++ ys) e
reached_on told [] ys d c e h k = subst (λ z. Reached told z ys e) h k
reached_on told (x ∷ xs) ys d c e h k = (h.0, h.1, reached_on told xs ys h.0 c e h.2 k)
