pub mod Fields
pub mod Groups
pub mod Written
pub mod Examples
