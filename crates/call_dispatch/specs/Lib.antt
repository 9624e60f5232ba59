-- A call by its number.
pub mod Dispatching
