-- The figures of a month, and how the code sums them.
pub mod Monthly
pub mod Capped
