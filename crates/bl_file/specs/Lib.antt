pub mod Stands
pub mod Standing
pub mod Files
pub mod Folders
pub mod Outlived
