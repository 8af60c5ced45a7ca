pub mod Splits
pub mod Readings
pub mod Moments
pub mod Passes
mod Pairs
pub mod Finds
mod Follows
pub mod Filters
pub mod Sounds
pub mod Settings
pub mod Props
pub mod Choices
pub mod Kept
pub mod Rooms
mod Enters
mod Histories
mod Outcomes
mod Groupings
pub mod Stand
mod Computed
mod Changed
pub mod Shots
pub mod Reaching
pub mod Both
