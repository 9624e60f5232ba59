-- The theorems about runs, in the order in which to read them.
pub mod Rising
pub mod Fresh
pub mod Demand3
pub mod Wear
pub mod Runs
