mod Chains
mod Digits
mod Found
mod Spelled
mod Checksums
pub mod Laws
