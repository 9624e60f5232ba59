-- The tests of ranges.
pub mod Ranges
