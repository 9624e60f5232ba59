-- The worked examples hold.
pub mod Tasks
pub mod Coming
