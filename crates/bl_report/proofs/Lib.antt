pub mod Running
pub mod Opening
pub mod Entering
pub mod Changing
pub mod Granting
pub mod Trust
pub mod Denying
pub mod Rising
