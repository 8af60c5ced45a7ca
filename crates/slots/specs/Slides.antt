-- What a slot holds: nothing, an object whose segments arrive, or a slide.
use Rattle.std.specs.Prelude.{ℕ, Bool, true, false, cond, ◌&&◌, Some, None, Option, ◌==◌, nat_le}
use Rattle.header.specs.Headers.{HeaderRecord}
use Rattle.header.specs.Names.{NameRecord, same_name}
use Rattle.header.specs.declared.kinds.Category.{Category}
use Rattle.moment.specs.declared.times.Time.{Time}
use Rattle.moment.specs.declared.times.Time.TheVariants.{Now, At}
use Rattle.slots.specs.Segments.{complete, after_segment}
use Rattle.slots.specs.declared.progress.Progress.{Progress}
use Rattle.slots.specs.declared.progress.Segment.{Segment}
use Rattle.std.specs.Option.{unwrap_or}

-- what an image header says, as far as two of them are compared: all but the header's size; a missing version is 0
pub record Image : Type 0 where
  pub size : ℕ
  pub subtype : ℕ
  pub name : NameRecord
  pub version : ℕ
  pub expire : Option Time
  pub trigger : Option Time
  pub category : Option Category

-- category 00 00 means none
abbrev pub real_category : Category → Option Category
real_category c = cond (c.category == 0 && c.slide == 0) None (Some c)

abbrev pub category_of : Option Category → Option Category
category_of None = None
category_of (Some c) = real_category c

abbrev pub image_of : HeaderRecord → Image
image_of h =
    record { size = h.body_size; subtype = h.subtype; name = h.name; version = unwrap_or h.version 0; expire = h.expire; trigger = h.trigger; category = category_of h.category }

-- whether two of them say the same
abbrev pub same_time : Option Time → Option Time → Bool
same_time None None = true
same_time None (Some b) = false
same_time (Some a) None = false
same_time (Some Now) (Some Now) = true
same_time (Some Now) (Some (At n)) = false
same_time (Some (At m)) (Some Now) = false
same_time (Some (At m)) (Some (At n)) = m == n

abbrev pub same_category : Option Category → Option Category → Bool
same_category None None = true
same_category None (Some b) = false
same_category (Some a) None = false
same_category (Some a) (Some b) = a.category == b.category && a.slide == b.slide

abbrev pub same_image : Image → Image → Bool
same_image a b =
    (a.size == b.size) && (a.subtype == b.subtype && (same_name a.name b.name && (a.version == b.version && (same_time a.expire b.expire && (same_time a.trigger b.trigger && same_category a.category b.category)))))

-- an object that arrives under a TransportId, with its accession number
pub record Object : Type 0 where
  pub transport : ℕ
  pub number : ℕ
  pub image : Image
  pub progress : Progress

-- a slide that is held, with the TransportId of its header, or of the last changed one
pub record Slide : Type 0 where
  pub transport : ℕ
  pub number : ℕ
  pub name : NameRecord
  pub version : ℕ
  pub expire : Option Time
  pub size : ℕ

pub data Slot : Type 0 where
  free : Slot
  arriving : Object → Slot
  held : Slide → Slot

-- an object of which nothing has come yet
abbrev pub fresh : ℕ → Progress
fresh size = record { size = size; piece = None; last = None; taken = 0 }

abbrev pub arrival : ℕ → ℕ → Image → Object
arrival transport number i = record { transport = transport; number = number; image = i; progress = fresh i.size }

-- the slide that an object becomes
abbrev pub slide_of : Object → Slide
slide_of o =
    record { transport = o.transport; number = o.number; name = o.image.name; version = o.image.version; expire = o.image.expire; size = o.image.size }

-- an expire time at or before t; Now is before all
abbrev pub passed : ℕ → Option Time → Bool
passed t None = false
passed t (Some Now) = true
passed t (Some (At m)) = nat_le m t

-- what is asked of a slot
abbrev pub is_free : Slot → Bool
is_free free = true
is_free (arriving o) = false
is_free (held x) = false

-- it has expired by t
abbrev pub ends : ℕ → Slot → Bool
ends t free = false
ends t (arriving o) = passed t o.image.expire
ends t (held x) = passed t x.expire

-- its object arrives under this TransportId
abbrev pub comes : ℕ → Slot → Bool
comes transport free = false
comes transport (arriving o) = o.transport == transport
comes transport (held x) = false

-- its object arrives under this TransportId from a header that said the same
abbrev pub comes_again : ℕ → Image → Slot → Bool
comes_again transport i free = false
comes_again transport i (arriving o) = o.transport == transport && same_image o.image i
comes_again transport i (held x) = false

-- it holds the slide of this name
abbrev pub named : NameRecord → Slot → Bool
named n free = false
named n (arriving o) = false
named n (held x) = same_name x.name n

-- it holds the slide of this name and version
abbrev pub versioned : NameRecord → ℕ → Slot → Bool
versioned n v free = false
versioned n v (arriving o) = false
versioned n v (held x) = same_name x.name n && x.version == v

-- the slide that it holds was last sent under this TransportId
abbrev pub sent_under : ℕ → Slot → Bool
sent_under transport free = false
sent_under transport (arriving o) = false
sent_under transport (held x) = x.transport == transport

-- it holds the slide with this accession number
abbrev pub numbered : ℕ → Slot → Bool
numbered n free = false
numbered n (arriving o) = false
numbered n (held x) = x.number == n

-- the accession number in a slot, 0 in a free one, and the size of a held body
abbrev pub number_in : Slot → ℕ
number_in free = 0
number_in (arriving o) = o.number
number_in (held x) = x.number

abbrev pub size_in : Slot → ℕ
size_in free = 0
size_in (arriving o) = 0
size_in (held x) = x.size

-- what moves a slot: a header that takes it, a segment that its object takes, a moment that comes, a header by which its slide is
-- sent again under a TransportId, its clearing
pub data Event : Type 0 where
  header : Object → Event
  segment : Segment → Event
  expiry : ℕ → Event
  resent : ℕ → Event
  clearing : Event

-- the object with a segment, or the slide once all is there
abbrev pub with_progress : Object → Progress → Object
with_progress o p = record { transport = o.transport; number = o.number; image = o.image; progress = p }

-- the slide under another TransportId
abbrev pub resent_slide : ℕ → Slide → Slide
resent_slide transport x =
    record { transport = transport; number = x.number; name = x.name; version = x.version; expire = x.expire; size = x.size }

abbrev pub filed_if : Bool → Object → Slot
filed_if true o = held (slide_of o)
filed_if false o = arriving o

-- each event moves a slot by its present state
abbrev pub moved : Event → Slot → Slot
moved (header o) x = arriving o
moved (segment s) free = free
moved (segment s) (arriving o) =
    filed_if (complete (after_segment o.progress s)) (with_progress o (after_segment o.progress s))
moved (segment s) (held x) = held x
moved (expiry t) free = free
moved (expiry t) (arriving o) = cond (passed t o.image.expire) free (arriving o)
moved (expiry t) (held x) = cond (passed t x.expire) free (held x)
moved (resent t) free = free
moved (resent t) (arriving o) = arriving o
moved (resent t) (held x) = held (resent_slide t x)
moved clearing x = free
