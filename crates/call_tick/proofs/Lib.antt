-- Laws of the tick.
pub mod Ticks
