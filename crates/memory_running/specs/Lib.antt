-- The best task and the running task as the code finds them.
pub mod Running
