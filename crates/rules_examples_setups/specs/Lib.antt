-- Worked examples, in the order in which to read them.
pub mod Recorded
pub mod Readings
