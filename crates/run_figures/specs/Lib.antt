-- The figures of a recorded run, by the rules and as they are counted.
pub mod Figures
pub mod Counting
