-- The theorems about a whole setup.
pub mod Whole
