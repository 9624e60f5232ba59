-- Laws of signed words, of verdicts done on the memory, of the tasks and the alarms that it shows, and of acts performed on it.
pub mod Signed
pub mod Verdicts
pub mod Tasks
pub mod Alarms
pub mod Performing
pub mod TickActs
