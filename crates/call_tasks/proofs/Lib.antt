-- Laws of the calls on tasks.
pub mod TaskCalls
