-- Worked cases of the rules, in the order in which to read them.
pub mod Bytes
pub mod BenchSheet
