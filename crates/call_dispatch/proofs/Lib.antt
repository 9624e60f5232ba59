-- Laws of a call by its number, and of every event.
pub mod Numbered
pub mod Arms
pub mod Done
