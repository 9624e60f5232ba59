-- Laws of lights.
pub mod Words
pub mod Taking
pub mod Levels
pub mod Examples
