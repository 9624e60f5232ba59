-- The text of what differs between two runs, and what a lent output holds then.
pub mod Changes
pub mod Output
pub mod Rows
