-- Its proof.
pub mod Turns
