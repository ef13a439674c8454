pub mod Ends
pub mod Arrivals
pub mod Firsts
pub mod Calling
