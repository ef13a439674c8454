pub mod Leaving
pub mod Both
pub mod Causes
pub mod Sitting
pub mod Ending
pub mod Beginning
