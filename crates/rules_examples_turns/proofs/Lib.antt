-- The worked examples hold.
pub mod Turns
