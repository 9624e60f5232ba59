-- What the acts on tasks write.
pub mod Waits
