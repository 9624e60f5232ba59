-- Recorded runs as bytes: of a whole input, and as they come.
pub mod Recorded
pub mod Recorder
