pub mod Keeping
pub mod Unkept
pub mod Ending
