-- Brightness over the kernel: what its functions promise, and what holds of every chain of events.
pub mod Readings
pub mod DarkRoom
