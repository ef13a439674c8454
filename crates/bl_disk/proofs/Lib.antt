pub mod Fronts
pub mod Passing
pub mod Living
pub mod Moving
