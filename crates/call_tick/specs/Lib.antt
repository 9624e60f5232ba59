-- What the first pass of a tick writes.
pub mod Ticking
