-- The layout of the memory.
pub mod Layout
pub mod Bits
