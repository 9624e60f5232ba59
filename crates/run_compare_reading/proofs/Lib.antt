-- Laws of reading two setups and one run.
pub mod Events
pub mod Verdict
pub mod Offset
pub mod Later
