-- The bench sheet holds.
pub mod BenchSheet
