pub mod Held
pub mod Joining
pub mod Putting
pub mod Telling
pub mod Told
pub mod Widening
