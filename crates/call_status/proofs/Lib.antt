-- Laws of the status calls.
pub mod Reading
