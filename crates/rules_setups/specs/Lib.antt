-- The faults of a setup.
pub mod Faults
