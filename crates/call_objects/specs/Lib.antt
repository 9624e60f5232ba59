-- What the calls on objects read.
pub mod Waiting
