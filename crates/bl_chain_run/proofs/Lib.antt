pub mod Apart
pub mod Taking
pub mod Starting
