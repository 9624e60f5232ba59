-- The tests of queues.
pub mod Queues
