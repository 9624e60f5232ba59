-- The exported functions: what they promise.
pub mod Exports
pub mod Brightness
pub mod Compare
