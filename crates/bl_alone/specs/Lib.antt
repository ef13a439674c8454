pub mod Telling
pub mod Runs
pub mod Recorded
pub mod AloneKept
pub mod Plans
