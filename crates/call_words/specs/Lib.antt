-- What a call answers, and what its function does to the memory.
pub mod Outcomes
pub mod Doing
pub mod Naming
