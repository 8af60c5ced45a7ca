pub mod Written
pub mod Overwritten
