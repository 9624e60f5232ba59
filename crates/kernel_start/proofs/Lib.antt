-- Laws of the start.
pub mod Steps
pub mod Shown
pub mod Fresh
