pub mod Starting
pub mod More
pub mod Knowing
pub mod Fewer
pub mod Fronts
pub mod Rules
