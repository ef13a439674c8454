pub mod Seating
pub mod Going
pub mod Tables
