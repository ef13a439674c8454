pub mod Counts
pub mod Gates
pub mod Views
pub mod Seats
pub mod Turns
