-- Laws of what is read of a task.
pub mod Readings
pub mod Heads
