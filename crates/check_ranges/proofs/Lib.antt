-- Laws of tests, and of ranges.
pub mod Decisions
pub mod Ranges
pub mod Steps
pub mod Loops
