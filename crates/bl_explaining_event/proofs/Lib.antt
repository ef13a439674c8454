pub mod Ending
pub mod Noted
pub mod Going
pub mod Speaking
pub mod Tasks
pub mod Beginning
pub mod Upward
pub mod Placed
