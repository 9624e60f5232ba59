-- The worked examples hold.
pub mod Handlers
