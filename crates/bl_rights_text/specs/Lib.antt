pub mod Remarks
pub mod Table
pub mod Fronts
pub mod Stretches
