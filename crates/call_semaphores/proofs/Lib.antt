-- Laws of the calls on semaphores.
pub mod SemaphoreCalls
