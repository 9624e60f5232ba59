-- Laws of the acts on time.
pub mod Steps
