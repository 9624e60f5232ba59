-- Laws of a recorder with its kernel and its text.
pub mod Items
pub mod Going
pub mod Ending
pub mod Sessions
