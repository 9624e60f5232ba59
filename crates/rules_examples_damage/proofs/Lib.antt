-- The worked examples hold.
pub mod Damages
pub mod Counters
