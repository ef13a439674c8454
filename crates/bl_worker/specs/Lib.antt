pub mod Turns
pub mod Hands
pub mod Batches
