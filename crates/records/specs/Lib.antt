pub mod Records
pub mod Sent
pub mod Lines
pub mod Texts
pub mod Examples
pub mod Written
