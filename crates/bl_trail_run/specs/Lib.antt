pub mod Files
pub mod Recording
pub mod Beginning
pub mod Plans
