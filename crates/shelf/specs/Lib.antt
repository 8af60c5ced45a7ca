pub mod Searches
pub mod Places
pub mod Laws
pub mod Calls
pub mod Kinds
