pub mod Low
pub mod Purge
pub mod Sealed
pub mod Flow
