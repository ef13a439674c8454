pub mod Marks
pub mod Findings
pub mod Told
pub mod Fed
pub mod Words
pub mod Kept
pub mod Keeps
