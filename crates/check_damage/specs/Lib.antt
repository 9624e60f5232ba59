-- What is broken in a memory that is no sound state.
pub mod Damage
pub mod Judged
