mod Copied
mod Entries
mod Heads
mod Multiples
mod Taped
pub mod Shown
