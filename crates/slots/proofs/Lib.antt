pub mod Numbers
pub mod Changed
pub mod Searched
pub mod Vacated
pub mod Sameness
pub mod Memory
pub mod Pieces
pub mod Landings
pub mod Laid
mod Assembled
pub mod Twelve
