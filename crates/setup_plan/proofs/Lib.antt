-- The theorems about where the parts of a setup lie.
pub mod Plans
