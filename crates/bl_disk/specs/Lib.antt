pub mod File
pub mod Moments
pub mod FileLives
