-- The worked examples hold.
pub mod Recorded
pub mod Readings
