-- Laws of the words that a plan writes.
pub mod Steps
pub mod Turns
pub mod Idle
