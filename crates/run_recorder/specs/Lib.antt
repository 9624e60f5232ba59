-- A recorder with its kernel and its text.
pub mod Running
pub mod Recording
pub mod Sessions
