-- Laws of the calls on alarms.
pub mod AlarmCalls
