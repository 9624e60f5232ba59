-- Laws of the check of queues.
pub mod Homes
pub mod Masks
pub mod BlockLines
pub mod Standing
pub mod Steps
