-- What the alarms do to the memory.
pub mod Setting
