pub mod Telling
pub mod Recoveries
pub mod Finishing
