pub mod Segments
pub mod Slides
pub mod Seen
pub mod Searches
pub mod Contents
pub mod Pieces
pub mod Bodies
