-- Laws of the check.
pub mod Unserved
pub mod Accepted
