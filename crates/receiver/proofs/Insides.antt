-- The receiver's data is sound, and stays so.
use Rattle.std.proofs.Common.{◌≡◌, sym, subst}
use mathlib.Core.Logic.{∥∥₁_elim}
use Rattle.receiver.specs.Views.{state_of}
use Rattle.receiver.specs.declared.parts.Parts.{Parts}
use Rattle.rules.proofs.Props.{sound_prop}
use Rattle.rules.specs.Soundness.{Sound}
use Rattle.rules.specs.Worlds.{State}

pub sound_of : (p : Parts) → Sound (state_of p)
sound_of p = ∥∥₁_elim p.sound (sound_prop (state_of p)) (λ x. x)

-- a state that is one of which it is known
pub kept_sound : (s t : State) → s ≡ t → Sound t → ∥ Sound s ∥₁
kept_sound s t e h = ∣ subst Sound (sym e) h ∣₁
