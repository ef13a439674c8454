pub mod Journals
pub mod Lives
pub mod Resumed
