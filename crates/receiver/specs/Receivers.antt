-- A receiver as the rules see it.
use Rattle.std.specs.Prelude.{ℕ, List}
use Rattle.display.specs.Meaning.{Meaning}
use Rattle.receiver.specs.Views.{world_of}
use Rattle.receiver.specs.declared.receivers.Receiver.{Receiver}
use Rattle.rules.specs.Worlds.{World}

-- the world that a receiver is with its body memory, by what its display means
module _ {D P : Type 0} (mean : D → Meaning) where
  abbrev pub world : Receiver D P → List ℕ → World
  world r memory = world_of r.parts memory (mean r.display)
