-- Laws of what the calls on objects share.
pub mod First
pub mod Waiters
pub mod Taking
