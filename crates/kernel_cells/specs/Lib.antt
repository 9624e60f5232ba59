-- What is promised of reading a cell, the states of all tasks and the running task.
pub mod Promises
