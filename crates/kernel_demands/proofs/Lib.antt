-- The theorems on every chain of events.
pub mod Chains
pub mod Demands
pub mod Interrupted
pub mod Turns
pub mod Clocks
pub mod Sheets
pub mod Uses
