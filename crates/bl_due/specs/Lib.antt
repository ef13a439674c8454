pub mod Due
pub mod Items
pub mod Points
pub mod Misfits
