-- Laws of what is read.
pub mod Promised
pub mod Listing
