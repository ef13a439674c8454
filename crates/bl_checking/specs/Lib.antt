pub mod Visible
pub mod Telling
pub mod Checks
