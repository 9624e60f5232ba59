-- What an event makes of a memory, and runs.
pub mod Steps
pub mod Serving
pub mod Written
