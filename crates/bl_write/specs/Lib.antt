pub mod Unread
pub mod Known
pub mod CanonicalLine
pub mod There
pub mod Writing
pub mod Counting
pub mod Matching
