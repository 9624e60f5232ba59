-- What the figures of runs add up to.
pub mod Adding
