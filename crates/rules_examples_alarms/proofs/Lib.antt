-- The worked examples hold.
pub mod Alarms
