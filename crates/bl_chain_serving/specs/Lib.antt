pub mod Following
pub mod Closing
pub mod Going
pub mod Telling
