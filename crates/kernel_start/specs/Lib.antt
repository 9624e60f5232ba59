-- The start: what a setup's bytes make of the lent memory.
pub mod Starting
