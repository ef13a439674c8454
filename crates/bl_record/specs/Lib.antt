pub mod Kept
pub mod Torn
pub mod Ending
pub mod Nearing
pub mod Faults
pub mod Recovering
pub mod Completing
