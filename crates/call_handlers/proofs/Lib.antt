-- Laws of entry and return.
pub mod Handlers
