-- The worked examples hold.
pub mod Objects
pub mod Looks
