pub mod Firsts
pub mod Joined
pub mod Passes
pub mod Declared
pub mod Few
pub mod Uses
pub mod Looked
