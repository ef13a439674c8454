pub mod Chronicle
pub mod EventCodes
pub mod Told
pub mod Awaited
pub mod Recalled
pub mod MaybePlaces
pub mod Linked
pub mod Keeps
