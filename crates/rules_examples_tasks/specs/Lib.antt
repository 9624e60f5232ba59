-- Worked examples, in the order in which to read them.
pub mod Tasks
pub mod Coming
