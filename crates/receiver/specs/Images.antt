-- What an image header is known to say once it was read.
use Rattle.std.specs.Prelude.{ℕ, ◌<◌, ◌≤◌, length}
use Rattle.header.specs.Headers.{HeaderRecord}

-- its body fits a slot, and it has a name that can be kept
pub record AnnouncesImage (room : ℕ) (h : HeaderRecord) : Type 0 where
  pub body : (0 < h.body_size) × (h.body_size ≤ room)
  pub named : (0 < length h.name.bytes) × (length h.name.bytes ≤ 64)
