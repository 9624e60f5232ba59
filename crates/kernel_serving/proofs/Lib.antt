-- Laws of events.
pub mod Served
pub mod Written
