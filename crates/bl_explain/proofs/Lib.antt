pub mod Between
pub mod Decided
pub mod Ranging
pub mod Changing
pub mod Running
pub mod Passing
pub mod Deciding
