-- Laws of the acts on objects.
pub mod Steps
