-- What is taken out of a slot: the object that arrives in it, or the slide that it holds.
use Rattle.slots.specs.Slides.{Slot, Object, Slide, free, arriving, held}
use Rattle.std.specs.Prelude.{Some, None, Option}

abbrev pub object_in : Slot → Option Object
object_in free = None
object_in (arriving o) = Some o
object_in (held x) = None

abbrev pub slide_held : Slot → Option Slide
slide_held free = None
slide_held (arriving o) = None
slide_held (held x) = Some x
