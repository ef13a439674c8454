pub mod Noting
pub mod Moments
pub mod Folding
