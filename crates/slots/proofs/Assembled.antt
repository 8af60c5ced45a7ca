-- A body that is put together, segment by segment.
use Rattle.std.proofs.Common.{◌≡◌, ℕ, ◌+◌, ◌<◌, ◌≤◌, List, [], ◌∷◌, ◌++◌, map, length, get_or, take, refl, ap, ◌∙◌}
use Rattle.std.proofs.lemmas.List.{map_more}
use Rattle.slots.specs.Bodies.{sent_of, assembled}
use Rattle.slots.specs.Pieces as pieces
use Rattle.slots.specs.Pieces.{Receipt, begun, received, received_all}
use Rattle.slots.specs.declared.bodies.Sent.{Sent}
use Rattle.slots.proofs.Laid.{Stands, stands_begun, stands_all}

received_append : (base : ℕ) (r : Receipt) (xs ys : List pieces.Sent) → received_all base r (xs ++ ys) ≡ received_all base (received_all base r xs) ys
received_append base r [] ys = refl
received_append base r (x ∷ xs) ys = received_append base (received base r x) xs ys

module _ (base B : ℕ) (m : List ℕ) where
  pub assembled_none : assembled base B m [] ≡ begun B m
  unfolding assembled
  assembled_none = refl

  pub assembled_more : (ss : List Sent) (i : ℕ) (d : Sent) → i < length ss → assembled base B m (take (i + 1) ss) ≡ received base (assembled base B m (take i ss)) (sent_of (get_or ss i d))
  unfolding assembled
  assembled_more ss i d h =
      ap (received_all base (begun B m)) (map_more sent_of ss i d h)
      ∙ received_append base (begun B m) (map sent_of (take i ss)) (sent_of (get_or ss i d) ∷ [])

  pub assembled_stands : (ss : List Sent) → base + B ≤ length m → Stands base B m (assembled base B m ss)
  unfolding assembled
  assembled_stands ss room = stands_all base B m (begun B m) (stands_begun base B m room) (map sent_of ss)
