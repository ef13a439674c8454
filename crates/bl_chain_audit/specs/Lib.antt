pub mod Noted
pub mod Journal
pub mod Closed
pub mod Untrue
