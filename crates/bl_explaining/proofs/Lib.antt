pub mod Held
pub mod Unasked
pub mod Nones
pub mod Nexts
