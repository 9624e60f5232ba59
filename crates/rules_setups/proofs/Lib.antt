-- The theorems about setups that are refused or recorded.
pub mod Faults
pub mod Recorded
