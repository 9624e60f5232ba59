-- Laws of the alarms' firing.
pub mod Firing
pub mod Ringing
