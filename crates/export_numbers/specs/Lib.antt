-- Enums as numbers.
pub mod Numbers
pub mod Brightness
