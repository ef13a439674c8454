pub mod Passing
pub mod States
pub mod Faults
pub mod ToldParts
pub mod Connecting
pub mod Ending
