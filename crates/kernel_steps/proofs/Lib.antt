-- What is known of a memory.
pub mod Looking
