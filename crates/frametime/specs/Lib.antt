pub mod Answers
pub mod Settings
pub mod Texts
pub mod Told
