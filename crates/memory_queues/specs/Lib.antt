-- What the functions on queues write.
pub mod Moves
