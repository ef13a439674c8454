pub mod Left
pub mod Ended
