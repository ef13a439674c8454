pub mod Comes
pub mod Written
pub mod Bookmarks
