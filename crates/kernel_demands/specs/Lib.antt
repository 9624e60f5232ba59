-- What is demanded of runs.
pub mod Demands
pub mod Turns
pub mod Uses
