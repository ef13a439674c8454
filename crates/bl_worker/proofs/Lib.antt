pub mod Settling
pub mod Working
pub mod Adding
pub mod Handing
pub mod Batching
