-- A header call by what the header says.
use Rattle.std.proofs.Common.{◌≡◌, ℕ, true, false, List, [], Result, sym, ap, ◌∙◌}
use Rattle.header.specs.Headers.{HeaderRecord, header_of}
use Rattle.refusal.specs.declared.Fault.{Fault}
use Rattle.refusal.specs.declared.causes.Cause.TheVariants.{BodyMemoryMisfit}
use Rattle.rules.specs.Effects.{on_header_effects, header_effects}
use Rattle.rules.specs.Headers.{receiver_fault, on_header, header_step}
use Rattle.rules.specs.Worlds.{World, fits_memory}
use Rattle.rules.specs.declared.answers.Answer.{Answer}
use Rattle.rules.specs.declared.answers.Answer.TheVariants.{Refused}
use Rattle.std.proofs.lemmas.Bool.{cond-true, cond-false}

module _ (w : World) (t : ℕ) (xs : List ℕ) where
  abbrev misfit : Answer × World
  misfit = (Refused (receiver_fault BodyMemoryMisfit), w)

  pub header_misfit : fits_memory w ≡ false → header_step w t xs ≡ misfit
  unfolding header_step
  header_misfit h = cond-false (fits_memory w) (on_header (header_of xs w.state.room) w t) misfit h

  pub header_says : (r : Result HeaderRecord Fault) → fits_memory w ≡ true → r ≡ header_of xs w.state.room → header_step w t xs ≡ on_header r w t
  unfolding header_step
  header_says r h e =
      cond-true (fits_memory w) (on_header (header_of xs w.state.room) w t) misfit h ∙ ap (λ x. on_header x w t) (sym e)

-- and what takes effect in it
module _ (w : World) (t : ℕ) (xs : List ℕ) where
  pub header_misfit_tells : fits_memory w ≡ false → header_effects w t xs ≡ []
  unfolding header_effects
  header_misfit_tells h = cond-false (fits_memory w) (on_header_effects (header_of xs w.state.room) w t) [] h

  pub header_says_tells : (r : Result HeaderRecord Fault) → fits_memory w ≡ true → r ≡ header_of xs w.state.room → header_effects w t xs ≡ on_header_effects r w t
  unfolding header_effects
  header_says_tells r h e =
      cond-true (fits_memory w) (on_header_effects (header_of xs w.state.room) w t) [] h ∙ ap (λ x. on_header_effects x w t) (sym e)
