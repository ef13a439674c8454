pub mod Parts
pub mod HeldLines
pub mod TurnLaws
pub mod WordLaws
pub mod PutLaws
pub mod Naming
