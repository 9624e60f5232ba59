-- The claim about turns.
pub mod Turns
