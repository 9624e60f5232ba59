-- Laws of recorded runs as bytes.
pub mod Words
pub mod Reach
pub mod Heads
pub mod Division
