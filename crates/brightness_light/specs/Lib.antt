-- Lights.
pub mod Lights
