pub mod Beginning
pub mod Origins
pub mod Weights
pub mod View
pub mod Keeps
pub mod Answers
pub mod HeldItems
