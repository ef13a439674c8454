pub mod Texts
pub mod Whole
pub mod Lines
pub mod Counts
pub mod Orders
pub mod Told
pub mod Chains
