-- What a header is, by the slides that are held and the objects that arrive, and what it comes to.
use Rattle.std.specs.Prelude.{◌≡◌, ℕ, true, List, []}
use Rattle.header.specs.Headers.{HeaderRecord}
use Rattle.receiver.specs.Images.{AnnouncesImage}
use Rattle.receiver.specs.declared.headers.Heard.{Heard}
use Rattle.receiver.specs.declared.headers.Heard.TheVariants.{New, Again, Changed, Update, Stray}
use Rattle.refusal.specs.declared.causes.Cause.TheVariants.{SlideNotHeld}
use Rattle.rules.specs.Effects.{amended_effects, changed_effects}
use Rattle.rules.specs.Headers.{receiver_fault, is_held, new_image, amended, changed}
use Rattle.rules.specs.Triggers.{Effect}
use Rattle.rules.specs.Worlds.{State, World, slot_at, vacate}
use Rattle.rules.specs.declared.answers.Answer.{Answer}
use Rattle.rules.specs.declared.answers.Answer.TheVariants.{Repeat, Refused}
use Rattle.slots.specs.Slides.{comes, image_of}

-- what it comes to in world w
abbrev pub heard_by : Heard → World → ℕ → HeaderRecord → Answer × World
heard_by New w transport h = new_image w transport (image_of h)
heard_by (Again n) w transport h = (Repeat n, w)
heard_by (Changed k) w transport h = changed w transport h k.index
heard_by (Update k) w transport h = amended k.index h w
heard_by Stray w transport h = (Refused (receiver_fault SlideNotHeld), w)

-- and what takes effect with it
abbrev pub heard_by_effects : Heard → World → ℕ → HeaderRecord → List Effect
heard_by_effects New w transport h = []
heard_by_effects (Again n) w transport h = []
heard_by_effects (Changed k) w transport h = changed_effects w transport h k.index
heard_by_effects (Update k) w transport h = amended_effects k.index h w
heard_by_effects Stray w transport h = []

-- a new image can be begun; the slide of an update is held, and that of a changed header also once an object that arrives under
-- its TransportId is dropped
abbrev pub HeardFits : Heard → State → ℕ → HeaderRecord → Type 0
HeardFits New s transport h = AnnouncesImage s.room h
HeardFits (Again n) s transport h = Unit {0}
HeardFits (Changed k) s transport h =
    (is_held (slot_at s k.index) ≡ true) × (is_held (slot_at (vacate (comes transport) s) k.index) ≡ true)
HeardFits (Update k) s transport h = is_held (slot_at s k.index) ≡ true
HeardFits Stray s transport h = Unit {0}
