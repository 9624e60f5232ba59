-- Laws of the best task and of the running task.
pub mod Lowest
pub mod Marks
pub mod Running
