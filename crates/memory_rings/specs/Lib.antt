-- Rings: parts of a list, links, and what a ring is.
pub mod Columns
pub mod Links
pub mod Rings
