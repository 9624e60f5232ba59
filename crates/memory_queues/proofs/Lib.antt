-- Laws of the queues.
pub mod Parts
pub mod Relinks
pub mod Notes
