pub mod Files
pub mod Entering
pub mod Doors
