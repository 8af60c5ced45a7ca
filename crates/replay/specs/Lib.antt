pub mod Ends
pub mod Tapes
pub mod Figures
