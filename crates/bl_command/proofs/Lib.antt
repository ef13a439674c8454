pub mod Crossing
pub mod Statuses
pub mod Reading
pub mod Sessions
