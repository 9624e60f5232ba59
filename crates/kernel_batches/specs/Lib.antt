-- Many events at once.
pub mod Batches
