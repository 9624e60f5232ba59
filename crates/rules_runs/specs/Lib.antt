-- Claims about runs, in the order in which to read them.
pub mod Order
pub mod Demand3
pub mod Wear
