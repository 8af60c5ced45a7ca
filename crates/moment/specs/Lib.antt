pub mod Field
pub mod Forms
pub mod Days
pub mod Shown
