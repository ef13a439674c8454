pub mod Keeping
pub mod Desks
pub mod Boards
