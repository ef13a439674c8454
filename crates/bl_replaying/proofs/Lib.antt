pub mod Splits
pub mod Opening
