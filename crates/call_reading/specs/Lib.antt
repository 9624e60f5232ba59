-- What the calls on tasks read.
pub mod Reading
