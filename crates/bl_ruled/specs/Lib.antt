pub mod Ruled
pub mod Noting
