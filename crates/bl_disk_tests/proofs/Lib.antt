pub mod InMemoryLemmas
pub mod Bytewise
