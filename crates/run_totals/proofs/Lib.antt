-- The theorems.
pub mod Rows
pub mod Kept
pub mod Sums
pub mod Reports
