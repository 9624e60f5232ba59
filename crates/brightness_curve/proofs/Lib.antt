-- Laws of brightness curves.
pub mod Good
pub mod Levels
pub mod Examples
