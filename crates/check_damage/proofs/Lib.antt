-- Laws of the naming of damage.
pub mod Steps
pub mod Named
