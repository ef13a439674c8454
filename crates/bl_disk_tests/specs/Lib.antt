pub mod InMemory
pub mod OfTorn
