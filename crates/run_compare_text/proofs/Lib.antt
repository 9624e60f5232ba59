-- Laws of what differs between two runs, and of its text.
pub mod Differ
pub mod Lengths
pub mod Laid
